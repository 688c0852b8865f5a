pub mod Row
pub mod Only
pub mod Tabulate
pub mod Bools
pub mod Copy
pub mod Bits
pub mod Laid
pub mod Said
