-- The types of this crate's code, for definitions and proofs. Assumes nothing.
pub use Rattle.openjoc_emdf.specs.declared.ParsedEmdf.{ParsedEmdf}
pub use Rattle.openjoc_emdf.specs.declared.CarrierClassification.{CarrierClassification}
