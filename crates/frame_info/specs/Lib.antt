pub mod Info
