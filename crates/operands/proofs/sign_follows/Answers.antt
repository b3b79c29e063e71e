-- `operands::sign_follows` meets its contract: the kind of the token ahead tells.
use mathlib.Core.Path.{◌≡◌, refl, sym, ap, ◌∙◌}
use mathlib.Core.Bool.{false}
use denote.Enum.Bare.{sameb}
use Rattle.notation.specs.Tokens.{Sign}
use Rattle.notation.specs.Grammar.{same_sign}
use Rattle.notation.specs.contracts.place.Connective.{the_type}
use Rattle.notation.specs.declared.place.Connective.{Connective}
use Rattle.notation.specs.declared.place.Connective.TheVariants as connective
use Rattle.notation.specs.declared.place.Kind.{Kind}
use Rattle.notation.specs.declared.place.Kind.TheVariants as kind
use Rattle.notation.specs.clauses.Cut.{sign_of}
use Rattle.operands.specs.clauses.Steps.{kind_is}
use Rattle.operands.proofs.sign_follows.Goals as goal

-- connectives are the same where their signs are
same-sign : (a b : Connective) → sameb the_type a b ≡ same_sign (sign_of b) (sign_of a)
unfolding same_sign
same-sign connective.Same connective.Same = refl
same-sign connective.Same connective.Implies = refl
same-sign connective.Same connective.Or = refl
same-sign connective.Same connective.And = refl
same-sign connective.Implies connective.Same = refl
same-sign connective.Implies connective.Implies = refl
same-sign connective.Implies connective.Or = refl
same-sign connective.Implies connective.And = refl
same-sign connective.Or connective.Same = refl
same-sign connective.Or connective.Implies = refl
same-sign connective.Or connective.Or = refl
same-sign connective.Or connective.And = refl
same-sign connective.And connective.Same = refl
same-sign connective.And connective.Implies = refl
same-sign connective.And connective.Or = refl
same-sign connective.And connective.And = refl

no-sign : (s : Sign) (k : Kind) → ((c : Connective) → k ≡ kind.Sign c → ⊥) → false ≡ kind_is s k
unfolding kind_is
no-sign s kind.End n = refl
no-sign s kind.Code n = refl
no-sign s (kind.Truth b) n = refl
no-sign s kind.Bang n = refl
no-sign s (kind.Sign c) n = absurd (n c refl)
no-sign s kind.Opening n = refl
no-sign s kind.Closing n = refl

pub returns-in-Sign : goal.returns-in-Sign
unfolding kind_is
returns-in-Sign c =
    c.eq.ensures ∙ same-sign c.in-Sign.ahead c.args.sign ∙ ap (kind_is (sign_of c.args.sign)) (sym c.in-Sign.is)

pub returns-in_default : goal.returns-in_default
returns-in_default c =
    no-sign _ _ c.in_default.not-Sign
