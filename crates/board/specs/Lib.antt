pub mod Boards
pub mod Views
