-- The types of this crate's code, for definitions and proofs. Assumes nothing.
pub use Rattle.emdf_plan.specs.declared.Layout.{Layout}
pub use Rattle.emdf_plan.specs.declared.Placed.{Placed}
pub use Rattle.emdf_plan.specs.declared.Cut.{Cut}
