pub mod PutBackValid
pub mod Laws
