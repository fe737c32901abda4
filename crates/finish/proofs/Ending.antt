-- A law for each way through a build's last steps.
-- Assumes nothing.
use mathlib.Core.Path.{◌≡◌, refl, ap, sym, ◌∙◌}
use mathlib.Core.Bool.{Bool, true, false, false≢true}
use mathlib.Core.List.{List, [], ◌∷◌, ◌++◌}
use Prim.Native.Nat.{ℕ, zero, suc, ◌+◌, ◌-◌, ◌≤◌, ◌<◌}
use native.Mathlib.Omega.{arith}
use lib.Dec.{ltb}
use lib.ListN.{length, get_or, take, drop, set, length-set, length-append, length-drop, drop_of_length-le}
use lib.Seq.{length-take-le, drop-append-le, take_at, take-length, take-suc-set, drop-cons}
use borrow.Author.Tests.{lt-leb, lt-ltb, le-ltb, leb-true, ne_eqb}
use borrow.Author.Rules.{rules}
use Rattle.refusal.specs.Answer.{Answer, given, refused, answered, number, then}
use Rattle.refusal.specs.Laws.Answers.{then_given, then_refused, both}
use Rattle.period.specs.declared.Period.{Period}
use Rattle.steps.specs.declared.Rule.{Rule}
use Rattle.steps.specs.declared.Request.{Request}
use Rattle.steps.specs.declared.Built.{Built}
use Rattle.steps.specs.Rules.{rule_in_force, tenor_in_force}
use Rattle.steps.specs.Finish.{Merged, meet_at_end, merge_end, merge_front, merge_front_if, meet_at_front}
use Rattle.steps.specs.Build.{refused_built, dates_after, flags_after}
use Rattle.steps.specs.Build.{answered as answered_built}
use Rattle.steps.specs.Entries.{Entries, pairs_of, merged_entries, without_former, without_second, left_beside, farthest, paid_of, moved_of, unadjusted_after, Written}
use Rattle.steps.specs.Laws.Entries.{former_is, former_length}
use Rattle.steps.specs.Laws.Entries as entries
use Rattle.std.specs.Prelude.{Result, Ok, Err, IsErr, IsErrAnd}
use Rattle.std.proofs.lemmas.Bool.{false≢true}
use Rattle.refusal.specs.declared.Refusal.{Refusal}
use Rattle.refusal.specs.Refusals.{number_of}
use Rattle.finish.specs.declared.merges.Part.{Part}
use Rattle.finish.specs.Moving.{Done, done, pairs}
use Rattle.finish.specs.Ends.{EndMerged, left_from, Short, FrontMerged, part_of, left_of, Within, UpTo, Merges, CopiedOut}
use Rattle.finish.specs.Following.{set_if, follow_end, follow_front}
use Rattle.finish.specs.Laws.Lending.{written_refused, written_as, completed_on, lent_stop, never_0}
use Rattle.finish.specs.Finishing.{accepted_built, built_or_refused, pair, lent_refusal, completed}

-- ---- writing out
pub accepted_is : (q : Request) (count tries moved : ℕ) (rule : Rule) (tenor : Period) → rule ≡ rule_in_force q → tenor ≡ tenor_in_force q → record { number = 0; count = count; tries = tries; rule = rule; tenor = tenor; moved = moved } ≡ accepted_built q count tries moved
unfolding accepted_built
accepted_is q count tries moved rule tenor e f = rw (e, f)

-- ---- both merges
apart_alone : (ds : List ℕ) → length ds < 2 → meet_at_front ds ≡ false
unfolding meet_at_front
apart_alone ds h = rw (lt-leb 2 (length ds) h)

alone_stays : (ds fs ds' fs' : List ℕ) (k : ℕ) → length ds < 2 → left_from (Ok k) ds' fs' ≡ merge_front (pair ds fs) → drop k ds' ≡ ds
unfolding left_from merge_front merge_front_if
alone_stays ds fs ds' fs' k h e =
    let a : given (pair (drop k ds') (drop k fs')) ≡ given (pair ds fs) = rw (apart_alone ds h) at e in
    let b : pair (drop k ds') (drop k fs') ≡ pair ds fs = cc in
    ap (λ (m : Merged). m.dates) b

front_kept : (p t : List ℕ) (n k : ℕ) → length p ≡ n → k ≤ n → take (n - k) (drop k (p ++ t)) ≡ drop k p
front_kept p t n k l h =
    rw (drop-append-le k p t (omega arith))
    (take_at (drop k p) t (n - k) (length-drop k p ∙ omega arith))

module _ {ds fs : List ℕ} (even : length ds ≡ length fs + 1) (to : ℕ) (ds₁ fs₁ : List ℕ) (f : EndMerged ds fs to ds₁ fs₁) (d : length ds₁ ≡ length ds) (g : length fs₁ ≡ length fs) where
  pub merge_size : to ≡ length (take to ds₁)
  merge_size = let a = f.few in sym (length-take-le to ds₁ (omega arith))

  pub merge_size_flags : to - 1 ≡ length (take (to - 1) fs₁)
  merge_size_flags = let a = f.few in sym (length-take-le (to - 1) fs₁ (omega arith))

  pub merge_even : length (take to ds₁) ≡ length (take (to - 1) fs₁) + 1
  merge_even = let a = merge_size in let b = merge_size_flags in let s = f.some in omega arith

  module _ (r : Result ℕ Refusal) (p s : List ℕ) (m : FrontMerged (take to ds₁) (take (to - 1) fs₁) r p s) where
    ended : pair (take to ds₁) (take (to - 1) fs₁) ≡ merge_end ds fs
    ended = rw (f.dates, f.flags)

    merge_stops : (n : Refusal) (ds₂ fs₂ : List ℕ) → r ≡ Err n → Merges ds fs (Err n) ds₂ fs₂
    unfolding left_from left_of Within UpTo
    merge_stops n ds₂ fs₂ e =
        let a : refused (number_of n) ≡ merge_front (pair (take to ds₁) (take (to - 1) fs₁)) = rw e at m.says in
        record { says = a ∙ ap merge_front ended; within = tt; up_to = tt }

    pub merge_refused : (n : Refusal) (left : Result Part Refusal) (ds₂ fs₂ : List ℕ) → r ≡ Err n → IsErr left × IsErrAnd left (λ k. k ≡ n) → Merges ds fs left ds₂ fs₂
    merge_refused n (Ok p) ds₂ fs₂ e h = absurd (false≢true h.0)
    merge_refused n (Err k) ds₂ fs₂ e h = rw h.1 (merge_stops n ds₂ fs₂ e)

    module _ (u : length p ≡ length (take to ds₁)) (v : length s ≡ length (take (to - 1) fs₁)) (from : ℕ) (e : r ≡ Ok from) where
      short : from ≤ 1
      unfolding Short
      short = let a : Short r (length (take to ds₁)) = m.short in rw e at a

      alone : to ≡ 1 → from ≡ 0
      alone h =
          let z = merge_size in
          let a : drop from p ≡ take to ds₁ = alone_stays (take to ds₁) (take (to - 1) fs₁) p s from (omega arith) (rw e at m.says) in
          let b : length p - from ≡ length (take to ds₁) = sym (length-drop from p) ∙ ap length a in
          omega arith

      before : (n : ℕ) → n ≡ to → 1 ≤ n → from < n
      before zero h s = let bad : ⊥ = omega arith in absurd bad
      before (suc zero) h s = let a = alone (sym h) in omega arith
      before (suc (suc n)) h s = omega (arith, short)

      pub merge_part : Merges ds fs (Ok (record { from = from; to = to })) (p ++ drop to ds₁) (s ++ drop (to - 1) fs₁)
      unfolding left_from left_of Within UpTo
      merge_part =
          let b = before to refl f.some in
          let z = merge_size in
          let w = merge_size_flags in
          let x = front_kept p (drop to ds₁) to from (omega arith) (omega arith) in
          let y = front_kept s (drop (to - 1) fs₁) (to - 1) from (omega arith) (omega arith) in
          let a : given (pair (drop from p) (drop from s)) ≡ merge_front (pair (take to ds₁) (take (to - 1) fs₁)) = rw e at m.says in
          record { says = rw (x, y) (a ∙ ap merge_front ended); within = (b, f.few); up_to = merge_size ∙ ap length f.dates }

pub ruleset merging = (merge_size, merge_size_flags, merge_even, merge_refused, rules)

-- ---- the unadjusted dates follow
module _ (l : List ℕ) (at : ℕ) where
  pub follow_end_yes : at < length l → set l (at - 1) (get_or l at 0) ≡ follow_end at l
  unfolding follow_end set_if
  follow_end_yes h = rw (lt-ltb at (length l) h) refl

  pub follow_end_no : length l ≤ at → l ≡ follow_end at l
  unfolding follow_end set_if
  follow_end_no h = rw (le-ltb at (length l) h) refl

  pub follow_front_yes : at ≡ 1 → set l 1 (get_or l 0 0) ≡ follow_front at l
  unfolding follow_front set_if
  follow_front_yes h = rw h refl

  pub follow_front_no : (at ≡ 1 → ⊥) → l ≡ follow_front at l
  unfolding follow_front set_if
  follow_front_no h = rw (ne_eqb at 1 h) refl

-- at the end
kept_former : (l : List ℕ) → 2 ≤ length l → take (length l - 1) (set l (length l - 2) (get_or l (length l - 1) 0)) ≡ take (length l - 2) l ++ drop (length l - 1) l
kept_former l two =
    let k : length l - 1 ≡ suc (length l - 2) = omega arith in
    let none : drop (suc (suc (length l - 2))) l ≡ [] = drop_of_length-le l {i = suc (suc (length l - 2))} (omega arith) in
    rw (k, drop-cons l (suc (length l - 2)) 0 (omega arith), none, take-suc-set l (length l - 2) _ (omega arith)) refl

follow_end_is : (b : Bool) (l : List ℕ) (to : ℕ) → (b ≡ true → 2 ≤ length l) → to ≡ length (without_former b l) → take to (follow_end to l) ≡ without_former b l
unfolding without_former follow_end set_if
follow_end_is false l to two e = rw (e, le-ltb (length l) (length l) (omega arith)) (take-length l)
follow_end_is true l to two e =
    let h = two refl in
    let a = length-append (take (length l - 2) l) (drop (length l - 1) l) in
    let b = length-take-le (length l - 2) l (omega arith) in
    let c = length-drop (length l - 1) l in
    let n : to ≡ length l - 1 = omega (arith, a, b, c) in
    let m : length l - 1 - 1 ≡ length l - 2 = omega arith in
    rw (n, lt-ltb (length l - 1) (length l) (omega arith), m) (kept_former l h)

-- at the front
kept_second : (l : List ℕ) (n : ℕ) → 2 ≤ n → n ≤ length l → take (n - 1) (drop 1 (set l 1 (get_or l 0 0))) ≡ without_second true (take n l)
unfolding without_second
kept_second l zero h f = let bad : ⊥ = omega arith in absurd bad
kept_second l (suc zero) h f = let bad : ⊥ = omega arith in absurd bad
kept_second [] (suc (suc n)) h f = let bad : ⊥ = omega arith in absurd bad
kept_second (x ∷ []) (suc (suc n)) h f = let bad : ⊥ = omega arith in absurd bad
kept_second (x ∷ y ∷ l) (suc (suc n)) h f = let e : suc (suc n) - 1 ≡ suc n = omega arith in rw e refl

follow_front_is : (b : Bool) (l : List ℕ) (from to : ℕ) → from < to → to ≤ length l → (b ≡ true → from ≡ 1) → (b ≡ false → from ≡ 0) → take (to - from) (drop from (follow_front from l)) ≡ without_second b (take to l)
unfolding follow_front set_if without_second
follow_front_is true l from to h f one none =
    let e = one refl in
    rw e (kept_second l to (omega arith) f)
follow_front_is false l from to h f one none = let e = none refl in rw e (same_part l to)
  where
    same_part : (l : List ℕ) (to : ℕ) → take (to - 0) l ≡ without_second false (take to l)
    same_part l to = let k : to - 0 ≡ to = omega arith in rw k refl

follow_end_size : (to : ℕ) (l : List ℕ) → length (follow_end to l) ≡ length l
unfolding follow_end set_if
follow_end_size to l = by (ltb to (length l))
  where
    by : (b : Bool) → length (set_if b l (to - 1) to) ≡ length l
    by true = length-set l (to - 1) (get_or l to 0)
    by false = refl

none_less : (l : List ℕ) (from to : ℕ) → from < to → to ≡ length l → length (without_second false l) ≡ to - from → from ≡ 0
unfolding without_second
none_less l from to h t n = omega arith

one_less : (l : List ℕ) (from to : ℕ) → from < to → 2 ≤ length l → to ≡ length l → length (without_second true l) ≡ to - from → from ≡ 1
unfolding without_second
one_less [] from to h two t n = let bad : ⊥ = omega arith in absurd bad
one_less (x ∷ []) from to h two t n = let bad : ⊥ = omega arith in absurd bad
one_less (x ∷ y ∷ l) from to h two t n = omega arith

two_at_front : (l : List ℕ) → meet_at_front l ≡ true → 2 ≤ length l
unfolding meet_at_front
two_at_front l e = leb-true 2 (length l) (both _ _ e).0

-- where the merges left the dates tells what they took away
module _ (paid flags : List ℕ) (from to : ℕ) (paid₁ flags₁ : List ℕ) (m : Merges paid flags (Ok (record { from = from; to = to })) paid₁ flags₁) (size : length paid₁ ≡ length paid) where
  inside : (from < to) × (to ≤ length paid)
  unfolding Within
  inside = m.within

  last_at : to ≡ length (without_former (meet_at_end paid) paid)
  unfolding UpTo merge_end
  last_at = m.up_to ∙ sym (ap length (former_is (meet_at_end paid) paid flags refl))

  two_at_end : meet_at_end paid ≡ true → 2 ≤ length paid
  unfolding meet_at_end
  two_at_end e = leb-true 2 (length paid) (both _ _ e).0

  merged_dates : without_former (meet_at_end paid) paid ≡ (merge_end paid flags).dates
  unfolding merge_end
  merged_dates = former_is (meet_at_end paid) paid flags refl

  at_front : (b : Bool) → meet_at_front (without_former (meet_at_end paid) paid) ≡ b → length (without_second b (without_former (meet_at_end paid) paid)) ≡ to - from
  unfolding left_of left_beside
  at_front b e =
      let g : given (part_of from to paid₁ flags₁) ≡ merge_front (merge_end paid flags) = m.says in
      let l = entries.left_is paid flags (part_of from to paid₁ flags₁) (sym g) in
      let n = length-take-le (to - from) (drop from paid₁) (omega (arith, length-drop from paid₁, inside.1, size)) in
      ap (λ (x : Bool). length (without_second x (without_former (meet_at_end paid) paid))) (sym e) ∙ ap length l ∙ n

  first_at : (b : Bool) → meet_at_front (without_former (meet_at_end paid) paid) ≡ b → ((b ≡ true → from ≡ 1) × (b ≡ false → from ≡ 0))
  first_at b e = by b e (at_front b e)
    where
      by : (b : Bool) → meet_at_front (without_former (meet_at_end paid) paid) ≡ b → length (without_second b (without_former (meet_at_end paid) paid)) ≡ to - from → ((b ≡ true → from ≡ 1) × (b ≡ false → from ≡ 0))
      by true e n = ((λ h. one_less (without_former (meet_at_end paid) paid) from to inside.0 (two_at_front _ e) last_at n), λ h. absurd (false≢true (sym h)))
      by false e n = ((λ h. absurd (false≢true h)), λ h. none_less (without_former (meet_at_end paid) paid) from to inside.0 last_at n)

  -- what stands beside them then
  pub followed : (work : List ℕ) → length work ≡ length paid → take (to - from) (drop from (follow_front from (follow_end to work))) ≡ left_beside paid work
  unfolding left_beside
  followed work even =
      let f = first_at (meet_at_front (without_former (meet_at_end paid) paid)) refl in
      let t : to ≡ length (without_former (meet_at_end paid) work) = last_at ∙ former_length (meet_at_end paid) paid work (sym even) in
      let e = follow_end_is (meet_at_end paid) work to (λ h. let k = two_at_end h in omega arith) t in
      follow_front_is (meet_at_front (without_former (meet_at_end paid) paid)) (follow_end to work) from to inside.0 (rw (follow_end_size to work) (let k = inside.1 in omega arith)) f.0 f.1
      ∙ ap (without_second (meet_at_front (without_former (meet_at_end paid) paid))) e

-- ---- all of it
pub part_left : (ds fs : List ℕ) (l : Result Part Refusal) (ds' fs' : List ℕ) → Merges ds fs l ds' fs' → (p : Part) → l ≡ Ok p → (p.from < p.to) × (p.to ≤ length ds)
unfolding Within
part_left ds fs l ds' fs' m p e = let v : Within l (length ds) = m.within in rw e at v

pub none_lent : {lent : Done} {k : ℕ} → number (answered lent) ≡ k → (v : Unit {0}) → lent ≡ Ok v → 0 ≡ k
unfolding number
none_lent p v z = rw z at p

-- what `?` hands on, as the record of a build
handed_built : (x : Result Built Refusal) (r : Refusal) → IsErr x × IsErrAnd x (λ k. k ≡ r) → built_or_refused x ≡ refused_built (number_of r)
handed_built (Ok b) r h = absurd (false≢true h.0)
handed_built (Err k) r h = rw h.1 refl

module _ (q : Request) (closed : List ℕ) (seed tries : ℕ) (work marks : List ℕ) (size : ℕ) (dates flags unadjusted : List ℕ) (lent : Done) (p : number (answered lent) ≡ lent_refusal (length work) size (length marks) (length dates) (length flags) (length unadjusted)) where
  abbrev Out : Answer Entries
  Out = completed q closed seed tries work marks size (length dates) (length flags) (length unadjusted)

  pub lent_stops : (n : Refusal) (x : Result Built Refusal) → lent ≡ Err n → IsErr x × IsErrAnd x (λ k. k ≡ n) → Written q Out (built_or_refused x) dates flags unadjusted dates flags unadjusted
  unfolding number
  lent_stops n x e h =
      let r : number_of n ≡ lent_refusal (length work) size (length marks) (length dates) (length flags) (length unadjusted) = rw e at p in
      lent_stop q closed seed tries work marks size dates flags unadjusted (number_of n) _ r (never_0 n) (handed_built x n h)

  module _ (v : Unit {0}) (z : lent ≡ Ok v) (r : Done) (work₁ paid₁ : List ℕ) (d : done r (pairs work₁ paid₁) ≡ pairs_of q closed seed work) where
    finished : then (pairs_of q closed seed work) (merged_entries marks tries) ≡ Out
    finished = completed_on q closed seed tries work marks size (length dates) (length flags) (length unadjusted) 0 (none_lent p v z) refl

    stopped : (n : Refusal) (x : Result Built Refusal) → refused (number_of n) ≡ then (pairs_of q closed seed work) (merged_entries marks tries) → IsErr x × IsErrAnd x (λ k. k ≡ n) → Written q Out (built_or_refused x) dates flags unadjusted dates flags unadjusted
    stopped n x e h = written_as q (refused (number_of n)) _ _ dates flags unadjusted dates flags unadjusted (e ∙ finished) (written_refused q (number_of n) _ dates flags unadjusted (handed_built x n h))

    pub pairs_stop : (n : Refusal) (x : Result Built Refusal) → r ≡ Err n → IsErr x × IsErrAnd x (λ k. k ≡ n) → Written q Out (built_or_refused x) dates flags unadjusted dates flags unadjusted
    unfolding done
    pairs_stop n x e h = stopped n x (then_refused _ (number_of n) (merged_entries marks tries) (sym (rw e at d))) h

    module _ (u : Unit {0}) (e : r ≡ Ok u) (l : Result Part Refusal) (paid₂ marks₂ : List ℕ) (m : Merges paid₁ marks l paid₂ marks₂) where
      both_dates : pairs_of q closed seed work ≡ given (pairs work₁ paid₁)
      unfolding done
      both_dates = sym (rw e at d)

      pub merge_stop : (n : Refusal) (x : Result Built Refusal) → l ≡ Err n → IsErr x × IsErrAnd x (λ k. k ≡ n) → Written q Out (built_or_refused x) dates flags unadjusted dates flags unadjusted
      unfolding left_of merged_entries
      merge_stop n x t h =
          let s : refused (number_of n) ≡ merge_front (merge_end paid₁ marks) = rw t at m.says in
          stopped n x (then_given _ _ (merged_entries marks tries) _ both_dates (then_refused _ (number_of n) _ (sym s))) h

      pub written_out : (from to moved : ℕ) (b : Built) (work₂ dates' flags' unadjusted' : List ℕ) → l ≡ Ok (record { from = from; to = to }) → length paid₂ ≡ length paid₁ → length work₁ ≡ length paid₁ → work₂ ≡ follow_front from (follow_end to work₁) → CopiedOut from to moved work₂ paid₂ marks₂ dates flags unadjusted dates' flags' unadjusted' → b ≡ accepted_built q (to - from) tries moved → Written q Out b dates flags unadjusted dates' flags' unadjusted'
      unfolding left_of merged_entries paid_of moved_of then answered_built dates_after flags_after unadjusted_after accepted_built
      written_out from to moved b work₂ dates' flags' unadjusted' t even beside follow c h =
          let n : Merges paid₁ marks (Ok (record { from = from; to = to })) paid₂ marks₂ = rw t at m in
          let s : given (part_of from to paid₂ marks₂) ≡ merge_front (merge_end paid₁ marks) = n.says in
          let w = part_left paid₁ marks _ paid₂ marks₂ n (record { from = from; to = to }) refl in
          let count : to - from ≡ length (take (to - from) (drop from paid₂)) = sym (length-take-le (to - from) (drop from paid₂) (omega (arith, length-drop from paid₂, w.1))) in
          let third : take (to - from) (drop from work₂) ≡ left_beside paid₁ work₁ = rw follow (followed paid₁ marks from to paid₂ marks₂ n even work₁ beside) in
          let far : moved ≡ farthest (take (to - from) (drop from paid₂)) (left_beside paid₁ work₁) = c.moved_then ∙ ap (farthest (take (to - from) (drop from paid₂))) third in
          let o : given (record { schedule = record { dates = (part_of from to paid₂ marks₂).dates; flags = (part_of from to paid₂ marks₂).flags; tries = tries }; unadjusted = left_beside paid₁ work₁ }) ≡ then (pairs_of q closed seed work) (merged_entries marks tries) = then_given _ _ (merged_entries marks tries) _ both_dates (then_given _ _ _ _ (sym s) refl) in
          written_as q _ _ b dates flags unadjusted dates' flags' unadjusted' (o ∙ finished)
          (record { answer = h ∙ (λ i. accepted_built q (count i) tries (far i)); dates_after_lem = c.dates_then; flags_after_lem = c.flags_then; unadjusted_after_lem = rw third at c.unadjusted_then })
