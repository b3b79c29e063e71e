-- `packs::due::role_of` meets its contract: each arm has the tags that its state wants.
use borrow.Author.Tests.{eq-eqb, ne_eqb}
use Rattle.packs.specs.Pack.{role_of, rule_tag}
use Rattle.packs.proofs.due.role_of.Goals as goal

pub returns-then-tag-eq-RULE_TAG : goal.returns-then-tag-eq-RULE_TAG
unfolding role_of
returns-then-tag-eq-RULE_TAG c =
    rw (c.in-RuleOrVariant.is, eq-eqb c.args.tag rule_tag c.if-tag-eq-RULE_TAG.true)

pub returns-in-Id : goal.returns-in-Id
unfolding role_of
returns-in-Id c =
    rw c.in-Id.is c.only.ensures

pub returns-else-tag-eq-RULE_TAG : goal.returns-else-tag-eq-RULE_TAG
unfolding role_of
returns-else-tag-eq-RULE_TAG c =
    rw (c.in-RuleOrVariant.is, ne_eqb c.args.tag rule_tag c.if-tag-eq-RULE_TAG.false) c.only-in-RuleOrVariant.ensures

pub returns-in-Variant : goal.returns-in-Variant
unfolding role_of
returns-in-Variant c =
    rw c.in-Variant.is c.only-in-Variant.ensures

pub returns-in-Text : goal.returns-in-Text
unfolding role_of
returns-in-Text c =
    rw c.in-Text.is c.only-in-Text.ensures

pub returns-in-VariantOrEnd : goal.returns-in-VariantOrEnd
unfolding role_of
returns-in-VariantOrEnd c =
    rw c.in-VariantOrEnd.is c.only-in-VariantOrEnd.ensures
