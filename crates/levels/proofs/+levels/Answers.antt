use mathlib.Core.Path.{sym, ap}
use native.Mathlib.Omega.{arith}
use Rattle.levels.specs.clauses.Levels.{operands_at, below_of}
use mathlib.Core.Path.{sym, ◌∙◌}
use Rattle.levels.proofs.Turning.{says-refused, left_alone, begins, further}
use Rattle.notation.specs.Tokens as tokens
use Rattle.levels.proofs.Nested.{too-deep, faulty-inside, inside-refused-says, asks-closed, unclosed, closed-says}
use mathlib.Core.Path.{◌≡◌, refl, sym, ◌∙◌}
use Rattle.operands.specs.clauses.Steps.{place}
use Rattle.levels.specs.clauses.Levels.{operands_at, below_of}
use Rattle.levels.proofs.Nesting.{right_is}
use Rattle.levels.proofs.Turning.{says-found, says-refused, passed, asks-sign, sign-refused, nearer, operand-refused, waits-on}
use Rattle.levels.proofs.Waiting.{rising-opened, rising-refused, up_first, asks-next}
use Rattle.levels.proofs.Waiting.{up_more, down-first, down-more, chain-ends, asks-last, all-joined}
use mathlib.Core.Path.{refl, sym, ◌∙◌}
use Rattle.levels.proofs.Turning.{says-found, says-refused, still-twice, carried, here, rooms-here, passed, asks-sign}
use Rattle.levels.proofs.Turning.{sign-refused, chain-read, asks-operand, nearer, operand-refused, asks-joined, grows, on-more, waits-past}
use Rattle.levels.proofs.Turning.{says-refused}
use Rattle.levels.proofs.Nested.{banged-none, bang-refused, bang-more, behind-says}
use mathlib.Core.Path.{sym, ap, ◌∙◌}
use Rattle.operands.proofs.Operands.{no-opener}
use Rattle.levels.proofs.Nested.{atom-level, misplaced}
use Prim.Native.Nat.{ℕ}
use mathlib.Core.List.{List}
use lib.ListN.{get_or}
use Rattle.levels.proofs.+levels.Goals as goal

pub both-returns-then-not-sign_follows : goal.both-returns-then-not-sign_follows
both-returns-then-not-sign_follows t c =
    left_alone tokens.and c.operand-first.ensures c.in-Ok.is (sym c.sign_follows.ensures ∙ c.if-not-sign_follows.true)

pub both-left_chain-requires : goal.both-left_chain-requires
both-left_chain-requires t c =
    let n = further tokens.and c.operand-first.ensures c.in-Ok.is (sym c.sign_follows.ensures ∙ c.if-not-sign_follows.false) in
    (omega (arith, n.0, n.1), begins tokens.and c.operand-first.ensures c.in-Ok.is c.requires.waits c.requires.brackets)

pub both-returns : goal.both-returns
both-returns t c =
    c.left_chain.ensures c.args.at.now c.args.codes.now c.args.out.now c.args.wait.now (c.operand-first.ensures.found _ c.in-Ok.is)
    (c.operand-first.ensures.still _ c.in-Ok.is)

pub bracket-returns-then-brackets-ge-BRACKETS : goal.bracket-returns-then-brackets-ge-BRACKETS
bracket-returns-then-brackets-ge-BRACKETS t c =
    too-deep c.requires.asks c.requires.at_value c.if-brackets-ge-BRACKETS.true c.refuse_ahead.ensures.now

pub bracket-returns-in_default : goal.bracket-returns-in_default
bracket-returns-in_default t c =
    faulty-inside c.requires.asks c.requires.at_value c.if-brackets-ge-BRACKETS.false c.advanced-moved.ensures c.in_default.is

pub bracket-returns-in_default-inner : goal.bracket-returns-in_default-inner
bracket-returns-in_default-inner t c =
    inside-refused-says c.requires.asks c.requires.at_value c.if-brackets-ge-BRACKETS.false c.advanced-moved.ensures c.in-Ok.is
    c.same-inner.ensures c.in_default-inner.is

pub bracket-closed-shut-requires : goal.bracket-closed-shut-requires
bracket-closed-shut-requires t c =
    let all = asks-closed c.requires.asks c.requires.at_value c.if-brackets-ge-BRACKETS.false c.advanced-moved.ensures c.in-Ok.is
    c.same-inner.ensures c.in-Ok-inner.is in
    record {
      token_fits = all.0;
      at_value = all.1;
    }

pub bracket-returns-in_default-shut : goal.bracket-returns-in_default-shut
bracket-returns-in_default-shut t c =
    unclosed c.requires.asks c.requires.at_value c.if-brackets-ge-BRACKETS.false c.advanced-moved.ensures c.in-Ok.is c.same-inner.ensures
    c.in-Ok-inner.is c.closed-shut.ensures
    c.in_default-shut.is

pub bracket-returns : goal.bracket-returns
bracket-returns t c =
    closed-says c.requires.asks c.requires.at_value c.if-brackets-ge-BRACKETS.false c.advanced-moved.ensures c.in-Ok.is c.same-inner.ensures c.in-Ok-inner.is
    c.closed-shut.ensures c.in-Ok-shut.is

pub either-returns-then-not-sign_follows : goal.either-returns-then-not-sign_follows
either-returns-then-not-sign_follows t c =
    left_alone tokens.or c.both-first.ensures c.in-Ok.is (sym c.sign_follows.ensures ∙ c.if-not-sign_follows.true)

pub either-left_chain-requires : goal.either-left_chain-requires
either-left_chain-requires t c =
    let n = further tokens.or c.both-first.ensures c.in-Ok.is (sym c.sign_follows.ensures ∙ c.if-not-sign_follows.false) in
    (omega (arith, n.0, n.1), begins tokens.or c.both-first.ensures c.in-Ok.is c.requires.waits c.requires.brackets)

pub either-returns : goal.either-returns
either-returns t c =
    c.left_chain.ensures c.args.at.now c.args.codes.now c.args.out.now c.args.wait.now (c.both-first.ensures.found _ c.in-Ok.is)
    (c.both-first.ensures.still _ c.in-Ok.is)

pub implies-loop-at-init : goal.implies-loop-at-init
implies-loop-at-init t c =
    up_first (c.either-first.ensures.still _ c.in-Ok.is).waits (waits-on c.requires.waits c.either-first.ensures c.in-Ok.is)
    c.either-first.ensures.rooms

pub implies-past_sign-moved-requires : goal.implies-past_sign-moved-requires
implies-past_sign-moved-requires t c =
    let r = c.loop-at.invariant.up c.args.at.now c.args.codes.now c.args.out.now (c.either-first.ensures.found _ c.in-Ok.is) in
    let all = asks-sign (rising-opened r) (sym c.sign_follows.ensures ∙ c.loop-at-test.true) in
    record {
      token_fits = all.0;
      at_value = all.1;
    }

pub implies-returns-in_default-moved : goal.implies-returns-in_default-moved
implies-returns-in_default-moved t c =
    let r = c.loop-at.invariant.up c.args.at.now c.args.codes.now c.args.out.now (c.either-first.ensures.found _ c.in-Ok.is) in
    says-refused refl (rising-refused r (sign-refused (rising-opened r) c.past_sign-moved.ensures c.in_default-moved.is))
    c.loop-at.invariant.rooms

pub implies-either-next-requires : goal.implies-either-next-requires
implies-either-next-requires t c =
    let r = c.loop-at.invariant.up c.args.at.now c.args.codes.now c.args.out.now (c.either-first.ensures.found _ c.in-Ok.is) in
    let q = (passed (sym c.sign_follows.ensures ∙ c.loop-at-test.true) c.past_sign-moved.ensures c.in-Ok-moved.is) in
    let n = nearer (rising-opened r) q in (
      omega (arith, (c.either-first.ensures.found _ c.in-Ok.is).later, c.loop-at.invariant.later, n.1, n.2),
      asks-next c.loop-at.invariant q
          c.push.ensures r c.requires.brackets,
    )

pub implies-returns-in_default-next : goal.implies-returns-in_default-next
implies-returns-in_default-next t c =
    let r = c.loop-at.invariant.up c.args.at.now c.args.codes.now c.args.out.now (c.either-first.ensures.found _ c.in-Ok.is) in
    let q = (passed (sym c.sign_follows.ensures ∙ c.loop-at-test.true) c.past_sign-moved.ensures c.in-Ok-moved.is) in
    says-refused c.in_default-next.is (rising-refused r (operand-refused (rising-opened r) q c.either-next.ensures c.in_default-next.is))
    c.either-next.ensures.rooms

pub implies-loop-at-smaller : goal.implies-loop-at-smaller
implies-loop-at-smaller t c =
    let r = c.loop-at.invariant.up c.args.at.now c.args.codes.now c.args.out.now (c.either-first.ensures.found _ c.in-Ok.is) in
    let q = (passed (sym c.sign_follows.ensures ∙ c.loop-at-test.true) c.past_sign-moved.ensures c.in-Ok-moved.is) in
    let n = nearer (rising-opened r) q in
    omega (arith, n.1, n.2, (c.either-next.ensures.found _ c.in-Ok-next.is).later)

pub implies-loop-at-preserved : goal.implies-loop-at-preserved
implies-loop-at-preserved t c =
    let q = (passed (sym c.sign_follows.ensures ∙ c.loop-at-test.true) c.past_sign-moved.ensures c.in-Ok-moved.is) in
    up_more c.loop-at.invariant q c.push.ensures c.either-next.ensures c.in-Ok-next.is

pub implies-loop-wait-init : goal.implies-loop-wait-init
implies-loop-wait-init t c =
    let r = c.loop-at.invariant.up c.args.at.now c.args.codes.now c.args.out.now (c.either-first.ensures.found _ c.in-Ok.is) in
    down-first c.loop-at.invariant r

pub implies-pop-left-requires : goal.implies-pop-left-requires
implies-pop-left-requires t c =
    record {
      table = c.loop-wait.invariant.rooms.literals;
      some = (omega (arith, c.loop-wait-test.true), c.loop-wait.invariant.most);
    }

pub implies-joined-last-requires : goal.implies-joined-last-requires
implies-joined-last-requires t c =
    let r = c.loop-at.invariant.up c.args.at.now c.args.codes.now c.args.out.now (c.either-first.ensures.found _ c.in-Ok.is) in
    let f = c.loop-wait.invariant.down c.args.at.now c.args.codes.now c.args.out.now (chain-ends r (sym c.sign_follows.ensures ∙ c.loop-at-test.false)) in
    let a = asks-last f c.loop-wait-test.true c.pop-left.ensures in
    record {
      out_len = c.loop-wait.invariant.rooms.triplets;
      at_bound = a.0;
      left_le_literal_ceiling = a.1;
    }

pub implies-loop-wait-preserved : goal.implies-loop-wait-preserved
implies-loop-wait-preserved t c =
    down-more c.loop-wait.invariant c.loop-wait-test.true c.pop-left.ensures c.joined-last.ensures

pub implies-returns : goal.implies-returns
implies-returns t c =
    let r = c.loop-at.invariant.up c.args.at.now c.args.codes.now c.args.out.now (c.either-first.ensures.found _ c.in-Ok.is) in
    let f = c.loop-wait.invariant.down c.args.at.now c.args.codes.now c.args.out.now (chain-ends r (sym c.sign_follows.ensures ∙ c.loop-at-test.false)) in
    let s = c.either-first.ensures.still _ c.in-Ok.is in
    let e : c.loop-wait.wait.count ≡ c.args.wait.now.count = omega (arith, c.loop-wait-test.false, c.loop-wait.invariant.least) in
    says-found refl (right_is tokens.implies (below_of tokens.implies (operands_at c.args.brackets)) c.args.brackets 3 c.args.text.now
    (place c.args.at.now) c.args.codes.now c.args.out.now _ _ _ (all-joined f e))
    (record {
      waits = e;
      others = λ i h. ap (λ (ls : List ℕ). get_or ls i 0) c.loop-wait.invariant.same ∙ c.loop-at.invariant.others i h ∙ s.others i h;
    }) c.loop-wait.invariant.rooms

pub left_chain-past_sign-moved-requires : goal.left_chain-past_sign-moved-requires
left_chain-past_sign-moved-requires t c =
    let all = asks-sign (here c.loop-sign.invariant c.requires) (sym c.sign_follows.ensures ∙ c.loop-sign-test.true) in
    record {
      token_fits = all.0;
      at_value = all.1;
    }

pub left_chain-returns-in_default : goal.left_chain-returns-in_default
left_chain-returns-in_default t c =
    λ p₀ codes₀ out₀ wait₀ f s.
    says-refused refl (sign-refused (carried c.loop-sign.invariant p₀ codes₀ out₀ f) c.past_sign-moved.ensures c.in_default.is)
    (rooms-here c.loop-sign.invariant c.requires)

pub left_chain-below-next-requires : goal.left_chain-below-next-requires
left_chain-below-next-requires t c =
    let so = (here c.loop-sign.invariant c.requires) in
    let q = (passed (sym c.sign_follows.ensures ∙ c.loop-sign-test.true) c.past_sign-moved.ensures c.in-Ok.is) in
    let n = nearer so q in (
      omega (arith, c.loop-sign.invariant.later, n.1, n.2),
      asks-operand so q (rooms-here c.loop-sign.invariant c.requires)
          (waits-past (c.loop-sign.invariant.waits c.requires.waits) q) c.requires.brackets,
    )

pub left_chain-returns-in_default-next : goal.left_chain-returns-in_default-next
left_chain-returns-in_default-next t c =
    let q = (passed (sym c.sign_follows.ensures ∙ c.loop-sign-test.true) c.past_sign-moved.ensures c.in-Ok.is) in
    λ p₀ codes₀ out₀ wait₀ f s. says-refused c.in_default-next.is
    (operand-refused (carried c.loop-sign.invariant p₀ codes₀ out₀ f) q c.below-next.ensures
    c.in_default-next.is) c.below-next.ensures.rooms

pub left_chain-joined-left-requires : goal.left_chain-joined-left-requires
left_chain-joined-left-requires t c =
    let a = asks-joined (here c.loop-sign.invariant c.requires) (passed (sym c.sign_follows.ensures ∙ c.loop-sign-test.true) c.past_sign-moved.ensures
    c.in-Ok.is) c.below-next.ensures c.in-Ok-next.is in
    record {
      out_len = c.below-next.ensures.rooms.triplets;
      at_bound = a.0;
      left_le_literal_ceiling = a.1;
    }

pub left_chain-loop-sign-smaller : goal.left_chain-loop-sign-smaller
left_chain-loop-sign-smaller t c =
    let n = grows (here c.loop-sign.invariant c.requires) (passed (sym c.sign_follows.ensures ∙ c.loop-sign-test.true) c.past_sign-moved.ensures c.in-Ok.is)
    c.below-next.ensures c.in-Ok-next.is c.joined-left.ensures in
    omega (arith, n.0, n.1)

pub left_chain-loop-sign-preserved : goal.left_chain-loop-sign-preserved
left_chain-loop-sign-preserved t c =
    on-more c.loop-sign.invariant (passed (sym c.sign_follows.ensures ∙ c.loop-sign-test.true) c.past_sign-moved.ensures c.in-Ok.is)
    c.below-next.ensures c.in-Ok-next.is c.joined-left.ensures

pub left_chain-returns : goal.left_chain-returns
left_chain-returns t c =
    λ p₀ codes₀ out₀ wait₀ f s.
    says-found refl (chain-read (carried c.loop-sign.invariant p₀ codes₀ out₀ f) (sym c.sign_follows.ensures ∙ c.loop-sign-test.false))
    (still-twice s c.loop-sign.invariant.still) (rooms-here c.loop-sign.invariant c.requires)

pub operand-loop-bang-init : goal.operand-loop-bang-init
operand-loop-bang-init t c =
    banged-none c.requires c.bang_follows-bang.ensures

pub operand-returns-in_default : goal.operand-returns-in_default
operand-returns-in_default t c =
    says-refused refl (bang-refused c.loop-bang.invariant c.loop-bang-test.true c.advanced-moved.ensures c.in_default.is _ _)
    c.requires.rooms

pub operand-loop-bang-preserved : goal.operand-loop-bang-preserved
operand-loop-bang-preserved t c =
    bang-more c.loop-bang.invariant c.loop-bang-test.true c.advanced-moved.ensures c.in-Ok.is c.bang_follows-bang-in-loop-bang.ensures

pub operand-flipped-requires : goal.operand-flipped-requires
operand-flipped-requires t c =
    omega (arith, (c.plain-plain.ensures.found _ c.in-Ok-plain.is).writes.small, c.loop-bang.invariant.passed.parity)

pub operand-returns : goal.operand-returns
operand-returns t c =
    behind-says c.loop-bang.invariant c.plain-plain.ensures c.in-Ok-plain.is _ c.flipped.ensures

pub plain-returns-in-Code : goal.plain-returns-in-Code
plain-returns-in-Code t c =
    atom-level c.requires.asks c.code_operand.ensures

pub plain-returns-in-Truth : goal.plain-returns-in-Truth
plain-returns-in-Truth t c =
    atom-level c.requires.asks (c.truth_operand.ensures c.args.codes.now c.requires.asks.standing)

pub plain-returns-in_default : goal.plain-returns-in_default
plain-returns-in_default t c =
    misplaced c.requires.asks (no-opener _ c.requires.at_value c.in_default.not-Code c.in_default.not-Truth c.in_default.not-Opening)
    c.refuse_ahead.ensures.now

pub same-returns-then-not-sign_follows : goal.same-returns-then-not-sign_follows
same-returns-then-not-sign_follows t c =
    left_alone tokens.same c.implies-first.ensures c.in-Ok.is (sym c.sign_follows.ensures ∙ c.if-not-sign_follows.true)

pub same-left_chain-requires : goal.same-left_chain-requires
same-left_chain-requires t c =
    let n = further tokens.same c.implies-first.ensures c.in-Ok.is (sym c.sign_follows.ensures ∙ c.if-not-sign_follows.false) in
    (omega (arith, n.0, n.1), begins tokens.same c.implies-first.ensures c.in-Ok.is c.requires.waits c.requires.brackets)

pub same-returns : goal.same-returns
same-returns t c =
    c.left_chain.ensures c.args.at.now c.args.codes.now c.args.out.now c.args.wait.now (c.implies-first.ensures.found _ c.in-Ok.is)
    (c.implies-first.ensures.still _ c.in-Ok.is)
