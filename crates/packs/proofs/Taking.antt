-- The reader of a pack, one field further: what it holds stays true of the line with that field.
use Rattle.std.specs.Prelude.{}
use Prim.Native.Nat.{ℕ, zero, suc, ◌+◌, ◌-◌, ◌≤◌, ◌<◌}
use native.Mathlib.Nat.{not-suc-le-zero, eq-or-lt_of_le}
use native.Mathlib.Omega.{arith}
use mathlib.Core.Path.{◌≡◌, refl, sym, ap, ◌∙◌}
use mathlib.Core.List.{List, [], ◌∷◌}
use mathlib.Core.Logic.{⊎_elim}
use lib.ListN.{length, get_or, take, length-append, get_or-append}
use lib.Seq.{get_or_at}
use Rattle.notation.specs.declared.codes.Code.{Code}
use Rattle.notation.specs.Ceilings.{connective_ceiling}
use Rattle.notation.specs.Walk.{Flag}
use Rattle.notation.specs.Guard.{Guard, connectives}
use Rattle.notation.specs.Triplets.{literal}
use Rattle.notation.specs.Reading.{guard}
use Rattle.notation.specs.declared.refusal.Refusal.{Refusal}
use Rattle.notation.proofs.Accepted.{Accepted, reading-from-accepted}
use Rattle.notation.proofs.Coding.{flags-length}
use Rattle.reading.specs.clauses.Parsing.{GuardRead}
use Rattle.reading.specs.Service.{Parsed}
use Rattle.fields.specs.Fields.{header, pieces_at}
use Rattle.fields.specs.clauses.Here.{FieldHere}
use Rattle.building.specs.declared.spans.GuardSpan.{GuardSpan}
use Rattle.building.specs.clauses.Held.{Held, HeldAt, off_at, count_at, root_at, text_at}
use Rattle.questions.specs.Questions.{variant_ceiling, sum_of, guard_at}
use Rattle.packs.specs.Pack.{Line, refusal, role_of, Next, refused, on, guard_in, ruled, varied, texted, step_as, pack_from, fields_say, id_ceiling}
use Rattle.packs.specs.clauses.Taken.{Stage, Taken, KeepSays, Noted, NotedText, guard_of, nowhere}
use Rattle.packs.specs.declared.due.Due.{Due}
use Rattle.packs.specs.declared.due.Due.TheVariants as due
use Rattle.packs.specs.declared.due.Role.{Role}
use Rattle.packs.specs.declared.due.Role.TheVariants as is
use Rattle.packs.specs.declared.steps.Progress.{Progress}
use Rattle.packs.proofs.Longer.{longer-in, longer-flags}
use Rattle.packs.proofs.Held.{held_more, guard-last, guard-earlier, sum-append, sum-none}
use Rattle.packs.proofs.Further.{goes-refused, goes_on}
use Rattle.packs.proofs.Stages.{id-step, rule-step, variant_step, text-step, stage-first, stage-rule, stage-variant, stage-text}

-- where the reader stands next
abbrev pub further_to : ℕ → Due → ℕ → ℕ → ℕ → Progress
further_to e d n v t = record { at = e; due = d; flags = n; variants = v; total = t }

module _ (file : List ℕ) (codes : List Code) (pool : List ℕ) (spans : List GuardSpan) (p : Progress) (l : Line)
    (t : Taken file codes pool spans p l) (tag s e : ℕ) (f : FieldHere file p.at tag s e) where
  at-s : (n : Next) (r : Role) → role_of p.due tag ≡ r → step_as r file l p.at s e ≡ n
      → step_as (role_of p.due tag) file l p.at (p.at + header) e ≡ n
  at-s n r q h = rw (q, sym f.starts) h

  on-to : (d : Due) (l' : Line) (r : Role) → role_of p.due tag ≡ r → step_as r file l p.at s e ≡ on d l'
      → pack_from file d l' (pieces_at file e) ≡ fields_say file
  on-to d l' r q h = goes_on file p.due l p.at (fields_say file) t.goes tag e f.pieces d l' (at-s (on d l') r q h)

  -- the field is refused
  pub taken_refused : (g : Refusal) (r : Role) → role_of p.due tag ≡ r → step_as r file l p.at s e ≡ refused g → fields_say file ≡ refusal g
  taken_refused g r x h = goes-refused file p.due l p.at (fields_say file) t.goes tag e f.pieces g (at-s (refused g) r x h)

  onward : p.at ≤ e
  onward = omega (arith, f.starts, f.later)

  -- an id
  pub taken-id : role_of p.due tag ≡ is.Id → 0 < e - s → e - s ≤ id_ceiling
      → Taken file codes pool spans (further_to e due.RuleOrVariant p.flags p.variants p.total) l
  taken-id q a b = record {
    rooms = t.rooms;
    goes = on-to due.RuleOrVariant l is.Id q (id-step file l p.at s e a b);
    inside = f.inside;
    seen = longer-flags file codes p.at e onward f.inside p.flags t.in_text ∙ t.seen;
    in_text = longer-in file codes p.at e onward f.inside p.flags t.in_text;
    few = t.few;
    stage = stage-first l p.due tag q t.stage;
    variants = t.variants;
    most = t.most;
    total = t.total;
    small = t.small;
    held = t.held;
    texts = t.texts;
  }

  -- one more text
  module _ (spans' : List GuardSpan) (w : NotedText p.variants s e spans spans') where
    text-here : (k : ℕ) → p.variants ≡ suc k → k ≡ length l.texts → text_at spans' (suc k) ≡ get_or (texted l s e).texts k nowhere
    text-here k a b = rw (sym a) (w.text ∙ sym (get_or_at l.texts (record { start = s; after = e }) [] nowhere k (sym b)))

    -- the texts before it stay
    text-before : length l.variants ≡ length l.texts + 1 → (k : ℕ) → k < length l.texts
        → text_at spans' (suc k) ≡ get_or (texted l s e).texts k nowhere
    text-before even k b =
        let many : p.variants ≡ length l.variants = t.variants in
        w.others (suc k) (λ (x : suc k ≡ p.variants). omega arith)
        ∙ t.texts k b
        ∙ sym (get_or-append l.texts (record { start = s; after = e } ∷ []) nowhere k b)

    pub taken-text : role_of p.due tag ≡ is.Text
        → Taken file codes pool spans' (further_to e due.VariantOrEnd p.flags p.variants p.total) (texted l s e)
    taken-text q =
        let even : length l.variants ≡ length l.texts + 1 = stage-text l p.due tag q t.stage in
        let more : length (texted l s e).texts ≡ length l.texts + 1 = length-append l.texts (record { start = s; after = e } ∷ []) in
        record {
          rooms = record { codes = t.rooms.codes; pool = t.rooms.pool; spans = w.room };
          goes = on-to due.VariantOrEnd (texted l s e) is.Text q (text-step file l p.at s e);
          inside = f.inside;
          seen = longer-flags file codes p.at e onward f.inside p.flags t.in_text ∙ t.seen;
          in_text = longer-in file codes p.at e onward f.inside p.flags t.in_text;
          few = t.few;
          stage = (omega arith, omega arith);
          variants = t.variants;
          most = t.most;
          total = t.total;
          small = t.small;
          held = λ h k b. held_more p.flags p.flags (guard_of l k) p.total p.total
              (off_at spans k) (count_at spans k) (root_at spans k) (off_at spans' k) (count_at spans' k) (root_at spans' k) pool pool
              (omega arith) (omega arith) refl (w.guards k).0 (w.guards k).1 (w.guards k).2 (t.held h k b);
          texts = λ k b. ⊎_elim
              (λ (x : k ≡ length l.texts). text-here k (omega (arith, t.variants)) x)
              (λ (x : k < length l.texts). text-before even k x)
              (eq-or-lt_of_le (upto k b more));
        }
      where
        upto : (k : ℕ) → k < length (texted l s e).texts → length (texted l s e).texts ≡ length l.texts + 1 → k ≤ length l.texts
        upto k b m = omega arith

  -- one more guard
  module _ (g : Guard) (u : List Flag) (is-guard : guard_in file l s e ≡ guard g u) (r : Parsed) (codes' : List Code) (out pool' : List ℕ)
      (spans' : List GuardSpan) (found : GuardRead (take e file) g u r codes' out)
      (kept : KeepSays out (connectives g) p.total pool pool') where
    flags-before : length l.flags ≡ p.flags
    flags-before = ap length (sym t.seen) ∙ flags-length (take p.at file) codes p.flags

    fine : Accepted (length u) g × (length l.flags ≤ length u)
    fine = reading-from-accepted l.flags (omega (arith, flags-before, t.few)) (take e file) s g u is-guard

    -- the new guard stands in the pool
    new-held : (o c n : ℕ) → o ≡ p.total → c ≡ connectives g → n ≡ literal 0 g → p.total + connectives g ≤ connective_ceiling
        → Held (length u) g (p.total + connectives g) o c n pool'
    new-held o c n x y z h = record {
      within = fine.0.within;
      count = y;
      root = z;
      inside = omega arith;
      stands = rw x ((kept.kept h).there ∙ found.written);
    }

    -- the guards before it stay there
    old-held : (k : ℕ) → k ≤ p.variants → off_at spans' k ≡ off_at spans k → count_at spans' k ≡ count_at spans k
        → root_at spans' k ≡ root_at spans k
        → p.total + connectives g ≤ connective_ceiling → HeldAt (length u) (guard_of l k) (p.total + connectives g) k spans' pool'
    old-held k b x y z h =
        held_more p.flags (length u) (guard_of l k) p.total (p.total + connectives g) (off_at spans k) (count_at spans k) (root_at spans k)
        (off_at spans' k) (count_at spans' k) (root_at spans' k) pool pool' (omega (arith, fine.1, flags-before)) (omega arith) (kept.kept h).before x
        y z
        (t.held (omega arith) k b)

    -- a rule
    pub taken-rule : role_of p.due tag ≡ is.Rule → Noted 0 p.total (connectives g) (literal 0 g) spans spans'
        → Taken file codes' pool' spans' (further_to e due.Variant (length u) p.variants (p.total + connectives g)) (ruled l g u)
    taken-rule q w =
        let first : Stage due.RuleOrVariant l = stage-rule l p.due tag q t.stage in
        let none : sum_of l.variants ≡ 0 = sum-none l.variants first.1 in
        record {
          rooms = record { codes = found.table; pool = kept.room; spans = w.room };
          goes = on-to due.Variant (ruled l g u) is.Rule q (rule-step file l p.at s e g u is-guard);
          inside = f.inside;
          seen = found.flags;
          in_text = found.in_text;
          few = found.few;
          stage = (first.1, first.2);
          variants = t.variants;
          most = t.most;
          total = omega (arith, t.total, none, first.0);
          small = omega (arith, t.total, none, first.0, found.short);
          held = λ h k b. rule-held k h (omega (arith, b, t.variants, first.1)) w;
          texts = λ k b. absurd (omega (arith, b, first.2));
        }
      where
        rule-held : (k : ℕ) → p.total + connectives g ≤ connective_ceiling → k ≤ 0
            → Noted 0 p.total (connectives g) (literal 0 g) spans spans'
            → HeldAt (length u) (guard_at g l.variants k) (p.total + connectives g) k spans' pool'
        rule-held zero h b w = new-held (off_at spans' 0) (count_at spans' 0) (root_at spans' 0) w.off w.count w.root h
        rule-held (suc k) h b w = absurd (not-suc-le-zero b)

    -- a variant
    module _ (w : Noted (p.variants + 1) p.total (connectives g) (literal 0 g) spans spans') where
      last-held : (k : ℕ) → p.total + connectives g ≤ connective_ceiling → k ≡ p.variants + 1
          → HeldAt (length u) (guard_of (varied l g u) k) (p.total + connectives g) k spans' pool'
      last-held k h x =
          let same : k ≡ suc (length l.variants) = omega (arith, t.variants) in
          let there : guard_of (varied l g u) k ≡ g = ap (guard_of (varied l g u)) same ∙ guard-last l g u in
          rw there (new-held (off_at spans' k) (count_at spans' k) (root_at spans' k) (rw x w.off) (rw x w.count) (rw x w.root) h)

      earlier-held : (k : ℕ) → p.total + connectives g ≤ connective_ceiling → k ≤ p.variants
          → HeldAt (length u) (guard_of (varied l g u) k) (p.total + connectives g) k spans' pool'
      earlier-held k h b =
          let same = w.others k (λ (x : k ≡ p.variants + 1). omega arith) in
          rw (guard-earlier l g u k (omega (arith, t.variants))) (old-held k b same.0 same.1 same.2 h)

      pub taken-variant : role_of p.due tag ≡ is.Variant → p.variants < variant_ceiling
          → Taken file codes' pool' spans' (further_to e due.Text (length u) (p.variants + 1) (p.total + connectives g)) (varied l g u)
      taken-variant q room =
          let even : length l.variants ≡ length l.texts = stage-variant l p.due tag q t.stage in
          let more : length (varied l g u).variants ≡ length l.variants + 1 = length-append l.variants (g ∷ []) in
          record {
            rooms = record { codes = found.table; pool = kept.room; spans = w.room };
            goes = on-to due.Text (varied l g u) is.Variant q (variant_step file l p.at s e g u (omega (arith, t.variants)) is-guard);
            inside = f.inside;
            seen = found.flags;
            in_text = found.in_text;
            few = found.few;
            stage = omega arith;
            variants = omega (arith, t.variants);
            most = omega arith;
            total = omega (arith, t.total, sum-append l.variants g);
            small = omega (arith, t.small, found.short);
            held = λ h k b. ⊎_elim
                (λ (x : k ≡ p.variants + 1). last-held k h x)
                (λ (x : k < p.variants + 1). earlier-held k h (omega arith))
                (eq-or-lt_of_le b);
            texts = λ k b. w.texts (suc k) ∙ t.texts k b;
          }
