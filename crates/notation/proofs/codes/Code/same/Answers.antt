-- `notation::codes::Code::same` meets its contract: other keys and lengths are other codes, a key tells a short one, and longer ones are compared.
use mathlib.Core.Path.{◌≡◌, ◌∙◌, sym}
use native.Mathlib.Omega.{arith}
use lib.ListN.{length}
use Rattle.notation.specs.clauses.Codes.{bytes_of, key_of}
use Rattle.notation.proofs.Coding.{part_length, other_length, other_key}
use Rattle.notation.proofs.Keys.{bytes-part, same_key, same_lists}
use Rattle.notation.proofs.codes.Code.same.Goals as goal

pub returns-then-self-other : goal.returns-then-self-other
returns-then-self-other c =
    let a = c.args in
    sym (other_key (bytes_of a.text.now a.self) (bytes_of a.text.now a.other)
    (λ (h : key_of (bytes_of a.text.now a.self) ≡ key_of (bytes_of a.text.now a.other)).
    c.if-self-other.true (c.requires.keyed.key ∙ h ∙ sym c.requires.other_keyed.key)))

pub returns-then-other-len : goal.returns-then-other-len
returns-then-other-len c =
    let a = c.args in
    let e = part_length a.text.now a.self.start a.self.next c.requires.keyed.inside in
    let f = part_length a.text.now a.other.start a.other.next c.requires.other_keyed.inside in
    sym (other_length (bytes_of a.text.now a.self) (bytes_of a.text.now a.other)
    (λ (h : length (bytes_of a.text.now a.self) ≡ length (bytes_of a.text.now a.other)). omega (arith, c.if-other-len.true, e, f, h)))

pub returns-then-len-le-KEY_BYTES : goal.returns-then-len-le-KEY_BYTES
returns-then-len-le-KEY_BYTES c =
    let a = c.args in
    let e = part_length a.text.now a.self.start a.self.next c.requires.keyed.inside in
    let f = part_length a.text.now a.other.start a.other.next c.requires.other_keyed.inside in
    sym (same_key (bytes_of a.text.now a.self) (bytes_of a.text.now a.other)
    (bytes-part a.text.now (λ i. omega (arith, c.type_inv.text i)) _ _) (bytes-part a.text.now (λ i. omega (arith, c.type_inv.text i)) _ _)
    (omega (arith, c.if-other-len.false, e, f)) (omega (arith, c.if-len-le-KEY_BYTES.true, e))
    (sym c.requires.keyed.key ∙ c.if-self-other.false ∙ c.requires.other_keyed.key))

pub returns : goal.returns
returns c =
    c.eq.ensures ∙ same_lists _ _
