mod Pieces
mod Pages
mod Numbers
mod Given
