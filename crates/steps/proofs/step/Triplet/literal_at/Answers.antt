-- `steps::step::Triplet::literal_at` meets its contract: the sides in the order of their names.
use Prim.Native.Nat.{ℕ}
use mathlib.Core.Path.{refl, sym, ◌∙◌, ap}
use lib.ListN.{get_or}
use Rattle.relation.proofs.LiteralLaws.{signed_odd}
use Rattle.steps.specs.Step.{own-z, literal_at}
use Rattle.steps.specs.Table.{z_names}
use Rattle.steps.proofs.step.Triplet.literal_at.Goals as goal

pub returns-in-3 : goal.returns-in-3
returns-in-3 c =
    c.flipped.ensures ∙ signed_odd c.args.self.x 1 refl ∙ sym (ap (λ (k : ℕ). literal_at c.args.self.x c.args.self.y c.args.self.z (get_or z_names k own-z))
    c.in-3.is)

pub returns-in-5 : goal.returns-in-5
returns-in-5 c =
    c.flipped-in-5.ensures ∙ signed_odd c.args.self.y 1 refl
    ∙ sym (ap (λ (k : ℕ). literal_at c.args.self.x c.args.self.y c.args.self.z (get_or z_names k own-z))
    c.in-5.is)
