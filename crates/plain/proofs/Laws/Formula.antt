-- A plain build by a formula: its list is as many tenors before termination as a division says, and its length follows from that division and the first flag.
-- Assumes nothing.
use Rattle.std.specs.Prelude.{ℕ, ◌+◌, ◌-◌, ◌/◌, ◌≤◌, ◌<◌, min, ◌≡◌, List, ◌∷◌, length, replicate}
use Rattle.std.proofs.Common.{ap, ◌∙◌, ⊎_elim, arith}
use Rattle.std.proofs.Math.Path.{subst}
use Rattle.refusal.specs.Answer.{given, refused, ROOM}
use Rattle.steps.specs.declared.Request.{Request}
use Rattle.steps.specs.Generate.{generate}
use Rattle.steps.specs.Build.{Schedule, build_of}
use Rattle.plain.specs.Listed.{one_list}
use Rattle.plain.specs.Demand.{Plain, Passes, tenors_before, Owed, FirstFlag, Flagged, tenor_count, Most, TooLong, Accepted, Kept}
use Rattle.plain.specs.Laws.Falling.{GeneratedBack}
use Rattle.plain.specs.Laws.Walked.{owed_list, generated}
use Rattle.plain.proofs.Laws.Proved.{first_is, demand_3}
use Rattle.plain.proofs.Laws.Settled.{same_first}

module _ (q : Request) (closed : List ℕ) (dates flags : ℕ) (p : Plain q) (c : Passes q closed dates flags) (m : ℕ) (w : Most q m) where
  abbrev g : GeneratedBack q.effective.day q.termination.day (min dates 4096) (tenors_before q) (m / tenor_count q) (generate q closed (min dates 4096))
  g = generated q p closed dates flags c m w (min dates 4096)

  pub owed_list_owed : Owed q (owed_list q m)
  unfolding owed_list
  owed_list_owed = subst (Owed q) g.made g.lists

  -- the dates number as many as the tries, and one more where the first period is irregular
  pub count_is : (ds : List ℕ) → Owed q ds → (flag : ℕ) → FirstFlag q flag → length ds + flag ≡ m / tenor_count q + 2
  count_is ds o flag f =
      let a : length ds ≡ length g.dates = ap (λ (l : List ℕ). length l) (one_list o g.lists) in
      let b : flag ≡ g.flag = same_first q flag g.flag f (first_is q closed dates flags p c m w) in
      omega (arith, g.count)

  abbrev pub outcome : Schedule
  outcome =
      record {
        dates = owed_list q m;
        flags = (m / tenor_count q + 2 - length (owed_list q m)) ∷ replicate (length (owed_list q m) - 2) 1;
        tries = 1 + m / tenor_count q;
      }

  kept : Kept q dates (owed_list q m) m (build_of q closed dates flags)
  kept = demand_3 q closed dates flags p c (owed_list q m) owed_list_owed m w

  pub given_by : length (owed_list q m) ≤ dates → length (owed_list q m) ≤ 4096 → build_of q closed dates flags ≡ given outcome
  given_by h i =
      let s = kept.accepted_else (⊎_elim (λ (x : dates < length (owed_list q m)). omega arith) (λ (x : 4096 < length (owed_list q m)). omega arith)) in
      let a : Accepted q (owed_list q m) m s.0 = s.2 in
      let f : Flagged q (owed_list q m) s.0.flags = a.flags in
      let e : f.first ≡ m / tenor_count q + 2 - length (owed_list q m) = omega (arith, count_is (owed_list q m) owed_list_owed f.first f.first_flag) in
      let l : s.0.flags ≡ outcome.flags = f.all_flags ∙ ap (λ (x : ℕ). x ∷ replicate (length (owed_list q m) - 2) 1) e in
      s.1 ∙ (λ i. given (record { dates = a.dates i; flags = l i; tries = a.tries i }))

  pub refused_by : TooLong dates (owed_list q m) → build_of q closed dates flags ≡ refused ROOM
  refused_by h = kept.refused_exactly.1 h
