-- The types of this crate's code, for definitions and proofs. Assumes nothing.
pub use Rattle.openjoc_bitio.specs.declared.BitError.{BitError}
pub use Rattle.openjoc_bitio.specs.declared.BitCursor.{BitCursor}
