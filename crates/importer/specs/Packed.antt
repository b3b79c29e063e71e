-- How an answer is one number: kind x 2^32 + payload.
use Rattle.std.specs.Prelude.{ℕ, ◌+◌, ◌*◌, ◌^◌, Bool, Result, Ok, Err}
use Rattle.ground.specs.Choice.{choose}
use Rattle.notation.specs.Numbers.{number_of}
use Rattle.notation.specs.declared.refusal.Refusal.{Refusal}
use Rattle.reading.specs.declared.parse.Guard as counted
use Rattle.reading.specs.declared.name.Stretch.{Stretch}
use Rattle.gaps.specs.declared.writing.Found.{Found}
use Rattle.gaps.specs.declared.writing.Found.TheVariants as found
use Rattle.saturation.specs.declared.verdict.Verdict.{Verdict}
use Rattle.saturation.specs.declared.verdict.Verdict.TheVariants as verdict

-- a kind with its payload
abbrev pub packed : ℕ → ℕ → ℕ
packed kind payload = kind * 2 ^ 32 + payload

-- kind 3 is refused, in every entry: the number of its reason x 2^16 + place
abbrev pub packed_refusal : Refusal → ℕ
packed_refusal f = packed 3 (number_of f.reason * 2 ^ 16 + f.place)

-- an answer has its own number, and a refusal that of a refusal
abbrev pub packed_answer : {T : Type 0} → (T → ℕ) → Result T Refusal → ℕ
packed_answer number (Ok x) = number x
packed_answer number (Err f) = packed_refusal f

-- check: kind 0 covered, 1 gap with its state, 2 undecided
abbrev pub packed_verdict : Verdict → ℕ
packed_verdict verdict.Covered = packed 0 0
packed_verdict (verdict.Gap s) = packed 1 s
packed_verdict verdict.Undecided = packed 2 0

-- evaluate: 0 false, 1 true
abbrev pub packed_value : Bool → ℕ
packed_value b = choose b 1 0

-- list: kind 0 done with how many were written, 1 more with the next gap; the slice is then full
abbrev pub packed_found : Found → ℕ
packed_found (found.Done m) = packed 0 m
packed_found (found.More m next) = packed 1 next

-- read: kind 0 with flags x 2^24 + triplets x 2^16 + root literal
abbrev pub packed_guard : counted.Guard → ℕ
packed_guard x = packed 0 (x.flags * 2 ^ 24 + x.count * 2 ^ 16 + x.root)

-- name: kind 0 with start x 2^16 + length
abbrev pub packed_stretch : Stretch → ℕ
packed_stretch s = packed 0 (s.start * 2 ^ 16 + s.len)
