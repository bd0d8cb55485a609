use mathlib.Core.Path.{◌≡◌}
use Prim.Native.Nat.{◌+◌, ◌-◌}
use native.Mathlib.Omega.{arith}
use Rattle.std.proofs.Common.{rules}
use Rattle.std.specs.Prelude.{Ok}
use Rattle.emdf_request.specs.Requests.{edit_of}
use Rattle.emdf_recipe.specs.declared.RecordKind.TheVariants.{Body}
use Rattle.emdf_recipe.specs.File.{edit_asked}
use Rattle.emdf_recipe.proofs.File.{has-kind, body-inside}
use Rattle.emdf_recipe_run.proofs.change_of.Goals as goal

pub overflow_add-result : goal.overflow_add-result
overflow_add-result c =
    let k : c.args.e.kind ≡ Ok Body = search rules in
    omega (arith, body-inside _ _ c.requires.allowed k)

pub slice_bounds-result-end : goal.slice_bounds-result-end
slice_bounds-result-end c =
    let k : c.args.e.kind ≡ Ok Body = search rules in
    body-inside _ _ c.requires.allowed k

pub returns-in-Ok-Body : goal.returns-in-Ok-Body
unfolding edit_of edit_asked
returns-in-Ok-Body c =
    let k : c.args.e.kind ≡ Ok Body = search rules in
    let z : c.args.e.offset + c.args.e.length - c.args.e.offset ≡ c.args.e.length = omega arith in
    rw (k, z)

pub unreachable-requires : goal.unreachable-requires
unreachable-requires c = has-kind _ _ _ c.requires.allowed c.in-Err.is
