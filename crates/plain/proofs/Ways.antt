-- A law for each way through `is_plain`.
-- Assumes nothing.
use Rattle.std.specs.Prelude.{◌≡◌, Bool, true, false}
use Rattle.std.proofs.Common.{ap, sym, ◌∙◌}
use Rattle.std.proofs.lemmas.Bool.{false≢true}
use Rattle.steps.specs.declared.Rule.{Rule}
use Rattle.steps.specs.declared.Rule.TheVariants.{Backward}
use Rattle.steps.specs.declared.Request.{Request}
use Rattle.steps.specs.Rules.{rule_number, one_of, is_backward}
use Rattle.steps.specs.Laws.Rules.{only}
use Rattle.plain.specs.Demand.{PlainIf}
use Rattle.plain.specs.PlainTests.{is_straight}
use Rattle.plain.specs.Laws.Straight.{straight_plain, plain_straight}

backward_only : (r : Rule) → is_backward r ≡ true → r ≡ Backward
unfolding is_backward
backward_only r e = only r Backward e

module _ (q : Request) (b : Bool) (h : b ≡ is_backward q.rule) where
  pub not_backward : b ≡ false → PlainIf b q
  unfolding is_backward one_of rule_number
  not_backward e =
      record {
        only = λ z. absurd (false≢true (sym e ∙ z));
        always = λ p. absurd (false≢true (sym e ∙ h ∙ ap is_backward p.backward));
      }

  pub then_straight : (r : Bool) → b ≡ true → r ≡ is_straight q → PlainIf r q
  then_straight r e k =
      record {
        only = λ z. straight_plain q (backward_only q.rule (sym h ∙ e)) (sym k ∙ z);
        always = λ p. k ∙ plain_straight q p;
      }
