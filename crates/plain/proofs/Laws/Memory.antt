-- Demand 3 and its mirror hold in memory, of every call that keeps the promise of `build`.
-- Assumes nothing.
use Rattle.std.specs.Prelude.{ℕ, ◌≡◌}
use Rattle.std.proofs.Math.Path.{ap}
use Rattle.std.proofs.Common.{◌∙◌, subst, eq-eqb}
use mathlib.Core.List.{List, ◌++◌}
use Rattle.std.proofs.Math.ListN.{length, drop}
use Rattle.refusal.specs.Answer.{Answer, given, refused, need, then, ROOM}
use Rattle.steps.specs.declared.Rule.{Rule}
use Rattle.steps.specs.declared.Rule.TheVariants.{Backward, Forward}
use Rattle.steps.specs.declared.Request.{Request}
use Rattle.steps.specs.declared.Built.{Built}
use Rattle.steps.specs.Rules.{rule_number, one_of, is_zero, tenor_under, rule_in_force, tenor_in_force}
use Rattle.steps.specs.Build.{Schedule, build_of, answered, over, dates_after, flags_after}
use Rattle.steps.specs.Entries.{Entries, entries_of, paid_of, moved_of, unadjusted_after, Written}
use Rattle.steps.specs.Laws.Entries.{NothingAdjusts, twice, with_its_dates}
use Rattle.steps.specs.Laws.Farthest.{same_dates}
use Rattle.plain.specs.Demand.{Plain, Accepted, WrittenOut, LeftAlone, Demand3InMemory}
use Rattle.plain.specs.Forward.{PlainForward, AcceptedOn, WrittenOn, DemandOnInMemory}
use Rattle.plain.specs.Laws.Walked.{rule_is}
use Rattle.plain.proofs.Laws.Onward.{rule_on}
use Rattle.plain.proofs.Laws.Proved.{demand_3}
use Rattle.plain.proofs.Laws.ForwardProved.{demand_on}

pub tenor_by_rule : (q : Request) (rule : Rule) → rule_in_force q ≡ rule → tenor_in_force q ≡ tenor_under (is_zero rule) q.tenor
unfolding tenor_in_force
tenor_by_rule q rule e = rw e

-- what a build with three lists of one length comes to, from what 01's build does
pub outcome : (q : Request) → NothingAdjusts q → (closed : List ℕ) (dates flags unadjusted : ℕ) → dates ≡ unadjusted → (o : Answer Schedule) → build_of q closed dates flags ≡ o → entries_of q closed dates flags unadjusted ≡ then o twice
unfolding need
outcome q u closed dates flags unadjusted even o h =
    with_its_dates q u closed dates flags unadjusted ∙ rw (eq-eqb dates unadjusted even) (ap (λ (x : Answer Schedule). then x twice) h)

module _ {q : Request} {r : Built} {dates flags unadjusted dates' flags' unadjusted' : List ℕ} where
  -- the promise, of an outcome that is known
  pub kept_of : {o o' : Answer Entries} → o ≡ o' → Written q o r dates flags unadjusted dates' flags' unadjusted' → Written q o' r dates flags unadjusted dates' flags' unadjusted'
  kept_of e w = subst (λ (x : Answer Entries). Written q x r dates flags unadjusted dates' flags' unadjusted') e w

  pub untouched : Written q (refused ROOM) r dates flags unadjusted dates' flags' unadjusted' → LeftAlone r dates flags unadjusted dates' flags' unadjusted'
  unfolding answered dates_after flags_after unadjusted_after paid_of then
  untouched w = record {
    number = ap (λ (b : Built). b.number) w.answer;
    count = ap (λ (b : Built). b.count) w.answer;
    tries = ap (λ (b : Built). b.tries) w.answer;
    moved = ap (λ (b : Built). b.moved) w.answer;
    dates_same = w.dates_after_lem;
    flags_same = w.flags_after_lem;
    unadjusted_same = w.unadjusted_after_lem;
  }

  written : Plain q → (ds : List ℕ) (m : ℕ) (s : Schedule) → Written q (twice s) r dates flags unadjusted dates' flags' unadjusted' → Accepted q ds m s → WrittenOut q ds m r dates flags unadjusted dates' flags' unadjusted'
  unfolding answered dates_after flags_after unadjusted_after paid_of moved_of then over tenor_under is_zero one_of rule_number
  written p ds m s w t = record {
    number = ap (λ (b : Built). b.number) w.answer;
    count = ap (λ (b : Built). b.count) w.answer ∙ ap (λ (l : List ℕ). length l) t.dates;
    tries = ap (λ (b : Built). b.tries) w.answer ∙ t.tries;
    rule = ap (λ (b : Built). b.rule) w.answer ∙ rule_is q p;
    tenor = ap (λ (b : Built). b.tenor) w.answer ∙ tenor_by_rule q Backward (rule_is q p);
    moved = ap (λ (b : Built). b.moved) w.answer ∙ same_dates s.dates;
    dates_then = w.dates_after_lem ∙ ap (λ (l : List ℕ). l ++ drop (length l) dates) t.dates;
    its_flags = s.flags;
    flagged = t.flags;
    flags_then = w.flags_after_lem;
    unadjusted_then = w.unadjusted_after_lem ∙ ap (λ (l : List ℕ). l ++ drop (length l) unadjusted) t.dates;
  }

  written_on : PlainForward q → (ds : List ℕ) (m : ℕ) (s : Schedule) → Written q (twice s) r dates flags unadjusted dates' flags' unadjusted' → AcceptedOn q ds m s → WrittenOn q ds m r dates flags unadjusted dates' flags' unadjusted'
  unfolding answered dates_after flags_after unadjusted_after paid_of moved_of then over tenor_under is_zero one_of rule_number
  written_on p ds m s w t = record {
    answer = w.answer ∙ (λ i. record { number = 0; count = length (t.dates i); tries = t.tries i; rule = rule_on q p i; tenor = tenor_by_rule q Forward (rule_on q p) i; moved = same_dates s.dates i });
    dates_then = w.dates_after_lem ∙ ap (λ (l : List ℕ). l ++ drop (length l) dates) t.dates;
    its_flags = s.flags;
    flagged = t.flags;
    flags_then = w.flags_after_lem;
    unadjusted_then = w.unadjusted_after_lem ∙ ap (λ (l : List ℕ). l ++ drop (length l) unadjusted) t.dates;
  }

pub demand_3_in_memory : Demand3InMemory
unfolding then
demand_3_in_memory q closed dates flags unadjusted dates' flags' unadjusted' r p c even w ds o m v =
    let k = demand_3 q closed (length dates) (length flags) p c ds o m v in
    let u : NothingAdjusts q = record { convention = p.unadjusted; terminal = p.unadjusted_last; no_month_end = p.no_month_end } in
    let out = outcome q u closed (length dates) (length flags) (length unadjusted) even in
    record {
      left_alone = λ h. untouched (kept_of (out (refused ROOM) (k.refused_exactly.1 h)) w);
      written_else = λ n. let s = k.accepted_else n in written p ds m s.0 (kept_of (out (given s.0) s.1) w) s.2;
    }

pub demand_on_in_memory : DemandOnInMemory
unfolding then
demand_on_in_memory q closed dates flags unadjusted dates' flags' unadjusted' r p c even w ds o m v =
    let k = demand_on q closed (length dates) (length flags) p c ds o m v in
    let u : NothingAdjusts q = record { convention = p.unadjusted; terminal = p.unadjusted_last; no_month_end = p.no_month_end } in
    let out = outcome q u closed (length dates) (length flags) (length unadjusted) even in
    record {
      left_alone = λ h. untouched (kept_of (out (refused ROOM) (k.refused_exactly.1 h)) w);
      written_else = λ n. let s = k.accepted_else n in written_on p ds m s.0 (kept_of (out (given s.0) s.1) w) s.2;
    }

-- ---- where both directions give one list, in memory too: AgreeMemory
