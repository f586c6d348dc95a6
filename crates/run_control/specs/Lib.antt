pub mod RunEffect
