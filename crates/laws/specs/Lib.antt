pub mod Said
pub mod Row
pub mod Tabulate
pub mod Bits
pub mod Laid
pub mod Ascii
