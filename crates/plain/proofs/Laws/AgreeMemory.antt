-- Both directions agree in memory too, of every two calls that keep the promise of `build`.
-- Assumes nothing.
use Rattle.std.specs.Prelude.{ℕ, ◌≡◌, length, eqb}
use Rattle.std.proofs.Math.Path.{refl, ap, sym}
use Rattle.std.proofs.Common.{◌∙◌}
use mathlib.Core.List.{List, ◌++◌}
use Rattle.std.proofs.Math.ListN.{drop, replicate}
use Rattle.std.proofs.lemmas.List.{length-replicate}
use Rattle.refusal.specs.Answer.{Answer, given, refused, need, then, UNEVEN, ROOM}
use Rattle.steps.specs.declared.Rule.{Rule}
use Rattle.steps.specs.declared.Rule.TheVariants.{Backward, Forward}
use Rattle.steps.specs.declared.Request.{Request}
use Rattle.steps.specs.declared.Built.{Built}
use Rattle.steps.specs.Rules.{rule_number, one_of, is_zero, tenor_under, tenor_in_force}
use Rattle.steps.specs.Build.{Schedule, answered, over, dates_after, flags_after}
use Rattle.steps.specs.Entries.{entries_of, paid_of, moved_of, unadjusted_after, Written}
use Rattle.steps.specs.Laws.Entries.{NothingAdjusts, twice, with_its_dates}
use Rattle.steps.specs.Laws.Farthest.{same_dates}
use Rattle.plain.specs.Forward.{under}
use Rattle.plain.specs.Agree.{Whole, EarlyDay, SameDay, Evenly, Direction, forward, backward, SameButRule, AgreeInMemory, EvenlyWritten, BothEvenlyInMemory}
use Rattle.plain.proofs.Laws.Memory.{tenor_by_rule, outcome, kept_of, untouched}
use Rattle.plain.proofs.Laws.AgreeProved.{rule_asked, early_same, both_agree_wider, both_evenly_wider}

module _ (q : Request) (k : ℕ) (w : Whole q k) where
  tenor_asked : (rule : Rule) → Direction rule → tenor_in_force (under rule q) ≡ q.tenor
  unfolding tenor_under is_zero one_of rule_number
  tenor_asked rule forward = tenor_by_rule (under Forward q) Forward (rule_asked q k w Forward)
  tenor_asked rule backward = tenor_by_rule (under Backward q) Backward (rule_asked q k w Backward)

  nothing_adjusts : (rule : Rule) → NothingAdjusts (under rule q)
  nothing_adjusts rule = record { convention = w.unadjusted; terminal = w.unadjusted_last; no_month_end = w.no_month_end }

  same_entries : SameDay q → (closed : List ℕ) (dates flags unadjusted : ℕ) → entries_of (under Forward q) closed dates flags unadjusted ≡ entries_of (under Backward q) closed dates flags unadjusted
  same_entries same closed dates flags unadjusted =
      with_its_dates (under Forward q) (nothing_adjusts Forward) closed dates flags unadjusted
      ∙ ap (λ (o : Answer Schedule). need UNEVEN (eqb dates unadjusted) (then o twice)) (both_agree_wider q k w same closed dates flags)
      ∙ sym (with_its_dates (under Backward q) (nothing_adjusts Backward) closed dates flags unadjusted)

  same_answer : (moved : ℕ) (o : Answer Schedule) → SameButRule (answered (under Forward q) moved o) (answered (under Backward q) moved o)
  unfolding answered
  same_answer moved (refused n) = record { number = refl; count = refl; tries = refl; tenor = refl; moved = refl }
  same_answer moved (given s) = record { number = refl; count = refl; tries = refl; tenor = tenor_asked Forward forward ∙ sym (tenor_asked Backward backward); moved = refl }

  written_evenly : {r : Built} {dates flags unadjusted dates' flags' unadjusted' : List ℕ} (rule : Rule) → Direction rule → (s : Schedule) → Evenly q k s → Written (under rule q) (twice s) r dates flags unadjusted dates' flags' unadjusted' → EvenlyWritten q k rule r dates flags unadjusted dates' flags' unadjusted'
  unfolding answered dates_after flags_after unadjusted_after paid_of moved_of then over
  written_evenly {r} {dates} {flags} {unadjusted} rule d s e v = record {
    answer = v.answer ∙ (λ i. record { number = 0; count = e.dates.count i; tries = e.tries i; rule = rule_asked q k w rule i; tenor = tenor_asked rule d i; moved = same_dates s.dates i });
    its_dates = s.dates;
    even = e.dates;
    dates_then = v.dates_after_lem ∙ ap (λ (x : ℕ). s.dates ++ drop x dates) e.dates.count;
    flags_then = v.flags_after_lem ∙ ap (λ (l : List ℕ). l ++ drop (length l) flags) e.flags ∙ ap (λ (x : ℕ). replicate k 1 ++ drop x flags) (length-replicate k 1);
    unadjusted_then = v.unadjusted_after_lem ∙ ap (λ (x : ℕ). s.dates ++ drop x unadjusted) e.dates.count;
  }

pub agree_in_memory_wider : AgreeInMemory SameDay
agree_in_memory_wider q k w same closed dates flags unadjusted r r' dates' dates'' flags' flags'' unadjusted' unadjusted'' a b =
    let c = kept_of (same_entries q k w same closed (length dates) (length flags) (length unadjusted)) a in
    (rw (c.answer, b.answer) (same_answer q k w _ _), c.dates_after_lem ∙ sym b.dates_after_lem, c.flags_after_lem ∙ sym b.flags_after_lem, c.unadjusted_after_lem ∙ sym b.unadjusted_after_lem)

pub evenly_in_memory_wider : BothEvenlyInMemory SameDay
unfolding then
evenly_in_memory_wider q k w same closed dates flags unadjusted dates' flags' unadjusted' r c even rule d v =
    let e = both_evenly_wider q k w same closed (length dates) (length flags) c rule d in
    let out = outcome (under rule q) (nothing_adjusts q k w rule) closed (length dates) (length flags) (length unadjusted) even in
    record {
      left_alone = λ h. untouched (kept_of (out (refused ROOM) (e.refused_exactly.1 h)) v);
      written_else = λ h. let s = e.given_else h in written_evenly q k w rule d s.0 s.2 (kept_of (out (given s.0) s.1) v);
    }

-- ---- so with a day of at most 28
pub agree_in_memory : AgreeInMemory EarlyDay
agree_in_memory q k w h = agree_in_memory_wider q k w (early_same q k w h)

pub evenly_in_memory : BothEvenlyInMemory EarlyDay
evenly_in_memory q k w h = evenly_in_memory_wider q k w (early_same q k w h)
