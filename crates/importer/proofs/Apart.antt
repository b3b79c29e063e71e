-- A packed number can be taken apart: a payload is below 2^32, so kind and payload are read back, and no two verdicts share a number.
use Prim.Native.Nat.{ℕ, ◌/◌, ◌%◌, ◌^◌, ◌≤◌, ◌<◌}
use mathlib.Core.Path.{◌≡◌, refl, sym, ap}
use Rattle.std.specs.Prelude.{Ok, Err}
use Rattle.guard_check.specs.Check.{Checking}
use native.Mathlib.Omega.{arith}
use Rattle.notation.specs.Ceilings.{text_ceiling}
use Rattle.notation.specs.declared.refusal.Reason.{Reason}
use Rattle.notation.specs.declared.refusal.Refusal.{Refusal}
use Rattle.saturation.specs.declared.verdict.Verdict.{Verdict}
use Rattle.saturation.specs.declared.verdict.Verdict.TheVariants.{Covered, Gap, Undecided}
use Rattle.notation.specs.Numbers.{number_of}
use Rattle.notation.proofs.Reasons.{number-apart}
use Rattle.importer.specs.Packed.{packed, packed_answer, packed_refusal, packed_verdict}
use Rattle.reading.specs.clauses.Parsing.{last_refusal}
use Rattle.importer.specs.clauses.Fits.{AnswerFits, RefusalFits, VerdictFits}

-- the kind and the payload of a number
pub packed-apart : (kind payload : ℕ) → payload < 2 ^ 32 → (packed kind payload / 2 ^ 32 ≡ kind) × (packed kind payload % 2 ^ 32 ≡ payload)
packed-apart kind payload h = (omega arith, omega arith)

-- the number and the place of a refusal
pub refusal-apart : (f : Refusal) → RefusalFits f
    → (packed_refusal f / 2 ^ 32 ≡ 3) × (packed_refusal f % 2 ^ 32 / 2 ^ 16 ≡ number_of f.reason) × (packed_refusal f % 2 ^ 16 ≡ f.place)
refusal-apart f h =
    let n : number_of f.reason ≤ last_refusal = h.number in
    let p : f.place ≤ text_ceiling = h.place in
    (omega arith, omega arith, omega arith)

refusal-same : (n m : Reason) (p q : ℕ) → n ≡ m → p ≡ q → ◌≡◌ {A = Checking} (Err (record { reason = n; place = p })) (Err (record { reason = m; place = q }))
refusal-same n m p q a b = rw (a, b)

verdict-same : (v w : Verdict) → VerdictFits v → VerdictFits w → packed_verdict v ≡ packed_verdict w → v ≡ w
verdict-same Covered Covered a b e = refl
verdict-same Covered (Gap t) a b e = absurd (omega arith)
verdict-same Covered Undecided a b e = absurd (omega arith)
verdict-same (Gap s) Covered a b e = absurd (omega arith)
verdict-same (Gap s) (Gap t) a b e = ap Gap (omega arith)
verdict-same (Gap s) Undecided a b e = absurd (omega arith)
verdict-same Undecided Covered a b e = absurd (omega arith)
verdict-same Undecided (Gap t) a b e = absurd (omega arith)
verdict-same Undecided Undecided a b e = refl

-- no verdict has the number of a refusal
verdict-refusal : (v : Verdict) (f : Refusal) → VerdictFits v → packed_verdict v ≡ packed_refusal f → ⊥
verdict-refusal Covered f a e = omega arith
verdict-refusal (Gap s) f a e = omega arith
verdict-refusal Undecided f a e = omega arith

-- two answers of check with one number are the same
pub verdict-apart : (v w : Checking) → AnswerFits VerdictFits v → AnswerFits VerdictFits w
    → packed_answer packed_verdict v ≡ packed_answer packed_verdict w → v ≡ w
verdict-apart (Ok v) (Ok w) a b e = ap Ok (verdict-same v w a b e)
verdict-apart (Ok v) (Err g) a b e = absurd (verdict-refusal v g a e)
verdict-apart (Err f) (Ok w) a b e = absurd (verdict-refusal w f b (sym e))
verdict-apart (Err f) (Err g) a b e =
    let n : number_of f.reason ≤ last_refusal = a.number in
    let p : f.place ≤ text_ceiling = a.place in
    let m : number_of g.reason ≤ last_refusal = b.number in
    let q : g.place ≤ text_ceiling = b.place in
    refusal-same f.reason g.reason f.place g.place (number-apart f.reason g.reason (omega arith)) (omega arith)
