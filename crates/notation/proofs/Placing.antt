-- Where the reader stands once a token was stored or refused.
use Prim.Native.Nat.{ℕ}
use native.Mathlib.Omega.{arith}
use mathlib.Core.Path.{◌≡◌, refl, sym, subst}
use mathlib.Core.List.{List}
use Rattle.std.specs.Prelude.{Result, Ok, Err}
use Rattle.notation.specs.Tokens.{tokens_at}
use Rattle.notation.specs.clauses.Cut.{PastSpaces, NextToken, FaultyHere}
use Rattle.notation.specs.clauses.Place.{RefusedAt, CutSays}
use Rattle.notation.specs.declared.refusal.Reason.{Reason}
use Rattle.notation.specs.declared.refusal.Refusal.{Refusal}
use Rattle.notation.specs.declared.refusal.Refused.{Refused}
use Rattle.notation.specs.declared.place.Token.{Token}
use Rattle.notation.specs.declared.place.Place.{Place}
use Rattle.notation.proofs.Cutting.{later-token, later-fault}

-- an answer is not both
pub never_both : {T A : Type 0} {v : T} {e : Refused} {r : Result T Refused} → r ≡ Ok v → r ≡ Err e → A
never_both {v = v} {e = e} {r = r} f g = let z : ◌≡◌ {A = ℕ} 0 1 = cc in absurd (omega arith)

-- the token that was stored is the next
pub taken-stored : {text : List ℕ} {p : Place} {from : ℕ} {t : Token} → NextToken text from t →
    CutSays text from p (Ok tt) (record { token = t; flags = p.flags; signs = p.signs; count = p.count; refusal = p.refusal })
taken-stored n = record {
  taken = λ _. n;
  refused = λ _ e. never_both refl e;
  behind = record { flags = refl; signs = refl; count = refl };
}

-- the refusal that was stored is that of the next token
pub refused-stored : {text : List ℕ} {p p' : Place} {from : ℕ} {n : Reason} {s : ℕ} {r : Refused} → RefusedAt n s p p' →
    FaultyHere (tokens_at text from) (record { reason = n; place = s }) → CutSays text from p (Err r) p'
refused-stored {text} {p} {p'} {from} t h = record {
  taken = λ e. never_both e refl;
  refused = λ _ _. subst (λ (x : Refusal). FaultyHere (tokens_at text from) x) (sym t.refusal) h;
  behind = t.behind;
}

-- spaces before a token change nothing
pub cut_later : {text : List ℕ} {p p' : Place} {from s : ℕ} {r : Result Unit Refused} → PastSpaces text from s → CutSays text s p r p' →
    CutSays text from p r p'
cut_later {text} {p} {p'} {from} {s} h c = record {
  taken = λ e. later-token text from s h p'.token (c.taken e);
  refused = λ x e. later-fault text from s h p'.refusal (c.refused x e);
  behind = c.behind;
}
