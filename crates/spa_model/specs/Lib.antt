pub use Rattle.spa_rows.specs.Lines
pub use Rattle.spa_rows.specs.Faults
pub mod Spa
pub mod Pairs
pub mod inner
