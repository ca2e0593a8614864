pub mod Decimal
pub mod Prototypes
pub mod Decorrelation
