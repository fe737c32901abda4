-- From what was decoded and built to what is printed.
-- Assumes nothing.
use Prim.Native.Nat.{ℕ, zero, suc, ◌+◌, ◌≤◌}
use mathlib.Core.Path.{◌≡◌, refl, ap, sym, ◌∙◌}
use mathlib.Core.Bool.{Bool, true, false}
use mathlib.Core.List.{List, [], ◌∷◌, ◌++◌}
use native.Mathlib.Omega.{arith}
use lib.Dec.{leb}
use lib.ListN.{length, take, drop, get_or, replicate, length-append}
use lib.Seq.{take-append_seam, get_or-drop}
use borrow.Author.Tests.{leb-true, le-leb}
use Rattle.std.specs.Prelude.{Result, Ok, Err}
use Rattle.refusal.specs.declared.Refusal.{Refusal}
use Rattle.refusal.specs.Refusals.{number_of}
use Rattle.refusal.specs.Answer.{Answer, given, refused, answered, then}
use Rattle.refusal.specs.Laws.Answers.{one_given, never_both}
use Rattle.steps.specs.declared.Request.{Request}
use Rattle.steps.specs.declared.Built.{Built}
use Rattle.steps.specs.Build as build
use Rattle.steps.specs.Build.{over, dates_after, flags_after}
use Rattle.steps.specs.Entries.{Entries, entries_of, paid_of, unadjusted_after, Written}
use Rattle.steps.specs.Laws.Counts.{build_flagged}
use Rattle.steps.specs.Laws.Tries.{build_tries}
use Rattle.steps.specs.Laws.Entries.{its_schedule, as_many_unadjusted}
use Rattle.outcomes.proofs.Refusals.{never_zero}
use Rattle.outcomes.proofs.Uneven.{refused_as_before}
use Rattle.request.specs.declared.Decoded.{Decoded}
use Rattle.request.specs.Format.{Asked, decoded}
use Rattle.request.specs.Decode.{counted, closed_dates_after, Decodes}
use Rattle.printing.specs.Text.{pick, later_lines, lines, schedule_text, refusal_text}
use Rattle.printing.specs.Put.{Put, fitting}
use Rattle.printing.specs.Laws.Lengths.{schedule_fits, refusal_fits}
use Rattle.reply.specs.Reply.{built_text, asked_text, reply_text, Replies, Printed, Zeros}
use Rattle.reply.specs.Shown.{by_number_of, shown_text}

-- ---- by the number
shown_refused : (n : ℕ) (text : List ℕ) → (n ≡ 0 → ⊥) → refusal_text n ≡ by_number_of n text
unfolding by_number_of
shown_refused zero text h = absurd (h refl)
shown_refused (suc n) text h = refl

shown_given : (n : ℕ) (text : List ℕ) → n ≡ 0 → text ≡ by_number_of n text
unfolding by_number_of
shown_given zero text e = refl
shown_given (suc n) text e = absurd (let bad : ⊥ = omega arith in bad)

module _ (b : Built) (dates flags unadjusted : List ℕ) {old new : List ℕ} {end : ℕ} where
  pub put_refusal : (b.number ≡ 0 → ⊥) → Put (fitting (refusal_text b.number) (length old)) 0 old end new → Put (fitting (shown_text b dates flags unadjusted) (length old)) 0 old end new
  unfolding shown_text
  put_refusal h p = rw (sym (shown_refused b.number (schedule_text b.tries (take b.count dates) flags (take b.count unadjusted)) h)) p

  pub put_schedule : b.number ≡ 0 → Put (fitting (schedule_text b.tries (take b.count dates) flags (take b.count unadjusted)) (length old)) 0 old end new → Put (fitting (shown_text b dates flags unadjusted) (length old)) 0 old end new
  unfolding shown_text
  put_schedule h p = rw (sym (shown_given b.number (schedule_text b.tries (take b.count dates) flags (take b.count unadjusted)) h)) p

-- ---- flags that are 0 and flags that are not there print the same
Alike : List ℕ → List ℕ → Type 0
Alike f g = (i : ℕ) → get_or f i 0 ≡ get_or g i 0

alike_tails : (f g : List ℕ) → Alike f g → Alike (drop 1 f) (drop 1 g)
unfolding Alike
alike_tails f g h i = get_or-drop 1 f i 0 ∙ h (1 + i) ∙ sym (get_or-drop 1 g i 0)

laters_alike : (dates f g unadjusted : List ℕ) → Alike f g → later_lines dates f unadjusted ≡ later_lines dates g unadjusted
unfolding Alike later_lines
laters_alike [] f g unadjusted h = refl
laters_alike (day ∷ days) f g unadjusted h =
    rw (h 0) (rw (laters_alike days (drop 1 f) (drop 1 g) (drop 1 unadjusted) (alike_tails f g h)))

text_alike : (tries : ℕ) (dates f g unadjusted : List ℕ) → Alike f g → schedule_text tries dates f unadjusted ≡ schedule_text tries dates g unadjusted
unfolding schedule_text lines
text_alike tries [] f g unadjusted h = refl
text_alike tries (day ∷ days) f g unadjusted h = rw (laters_alike days f g (drop 1 unadjusted) h)

behind_zeros : (xs rest : List ℕ) → Zeros rest → Alike (xs ++ rest) xs
unfolding Alike
behind_zeros [] rest z i = z.zero_at i
behind_zeros (x ∷ xs) rest z zero = refl
behind_zeros (x ∷ xs) rest z (suc i) = behind_zeros xs rest z i

drop_zeros : (k : ℕ) (l : List ℕ) → Zeros l → Zeros (drop k l)
drop_zeros k l z = record { zero_at = λ i. get_or-drop k l i 0 ∙ z.zero_at (k + i) }

over_zeros : (new old : List ℕ) → Zeros old → Alike (over new old) new
unfolding over
over_zeros new old z = behind_zeros new (drop (length new) old) (drop_zeros (length new) old z)

-- ---- a text that fits ends within what was lent
pick_within : (b : Bool) (text : List ℕ) (room : ℕ) → leb (length text) room ≡ b → length (pick b text []) ≤ room
pick_within true text room e = leb-true (length text) room e
pick_within false text room e = omega arith

put_within : (text : List ℕ) {old new : List ℕ} {end : ℕ} → Put (fitting text (length old)) 0 old end new → end ≤ length new
unfolding fitting
put_within text {old} p = omega (arith, p.ends, p.size, pick_within (leb (length text) (length old)) text (length old) refl)

-- ---- what was laid over a list
take_over : (new old : List ℕ) → take (length new) (over new old) ≡ new
unfolding over
take_over new old = take-append_seam new (drop (length new) old)

over_length : (new old : List ℕ) → length new ≤ length (over new old)
unfolding over
over_length new old = omega (arith, length-append new (drop (length new) old))

-- ---- every text of a build is short, and none is refused 0
built_short : (q : Request) (closed : List ℕ) → length (built_text (entries_of q closed 4096 4096 4096)) ≤ 106519
unfolding built_text
built_short q closed = by (entries_of q closed 4096 4096 4096) refl
  where
    by : (o : Answer Entries) → entries_of q closed 4096 4096 4096 ≡ o → length (built_text o) ≤ 106519
    by (given e) h =
        let s = its_schedule q closed 4096 4096 4096 e h in
        schedule_fits e.schedule.tries e.schedule.dates e.schedule.flags e.unadjusted (build_flagged q closed 4096 4096 e.schedule s).fits (build_tries q closed 4096 4096 e.schedule s)
    by (refused n) h = refusal_fits n

never_refused_zero : (q : Request) (closed : List ℕ) → entries_of q closed 4096 4096 4096 ≡ refused 0 → ⊥
never_refused_zero q closed h = never_zero q closed 4096 4096 ((refused_as_before q closed 4096 4096 4096 refl 0).0 h)

-- ---- a build
-- as many unadjusted dates as dates
Paired : Answer Entries → Type 0
Paired o = (e : Entries) → o ≡ given e → length e.unadjusted ≡ length e.schedule.dates

module _ {q : Request} {r : Built} {dates flags unadjusted dates' flags' unadjusted' : List ℕ} where
  -- the number tells, as no build is refused 0
  shown_built : (o : Answer Entries) → Paired o → (o ≡ refused 0 → ⊥) → Written q o r dates flags unadjusted dates' flags' unadjusted' → Zeros flags → shown_text r dates' flags' unadjusted' ≡ built_text o
  unfolding Paired shown_text built_text by_number_of build.answered dates_after flags_after unadjusted_after paid_of then
  shown_built (given e) k n w z =
      let t : take (length e.schedule.dates) (over e.unadjusted unadjusted) ≡ e.unadjusted = rw (sym (k e refl)) (take_over e.unadjusted unadjusted) in
      rw (w.answer, w.dates_after_lem, w.flags_after_lem, w.unadjusted_after_lem, take_over e.schedule.dates dates, t)
      (text_alike e.schedule.tries e.schedule.dates (over e.schedule.flags flags) e.schedule.flags e.unadjusted (over_zeros e.schedule.flags flags z))
  shown_built (refused zero) k n w z = absurd (n refl)
  shown_built (refused (suc m)) k n w z = rw w.answer

  counts_fit : (o : Answer Entries) → Paired o → Written q o r dates flags unadjusted dates' flags' unadjusted' → (r.count ≤ length dates') × (r.count ≤ length unadjusted')
  unfolding Paired build.answered dates_after unadjusted_after paid_of then
  counts_fit (given e) k w =
      (rw (w.answer, w.dates_after_lem) (over_length e.schedule.dates dates), rw (w.answer, w.unadjusted_after_lem) (omega (arith, k e refl, over_length e.unadjusted unadjusted)))
  counts_fit (refused n) k w = (rw w.answer (omega arith), rw w.answer (omega arith))

  pub built_count : (closed : List ℕ) → Written q (entries_of q closed (length dates) (length flags) (length unadjusted)) r dates flags unadjusted dates' flags' unadjusted' → (r.count ≤ length dates') × (r.count ≤ length unadjusted')
  unfolding Paired
  built_count closed w = counts_fit _ (as_many_unadjusted q closed (length dates) (length flags) (length unadjusted)) w

  pub built_replies : (closed : List ℕ) {old new : List ℕ} {end : ℕ} → length dates ≡ 4096 → length flags ≡ 4096 → length unadjusted ≡ 4096 → Zeros flags → Written q (entries_of q closed (length dates) (length flags) (length unadjusted)) r dates flags unadjusted dates' flags' unadjusted' → Put (fitting (shown_text r dates' flags' unadjusted') (length old)) 0 old end new → Replies (built_text (entries_of q closed 4096 4096 4096)) old end new
  unfolding Paired
  built_replies closed {old} {new} {end} d f u z w p =
      let v : Written q (entries_of q closed 4096 4096 4096) r dates flags unadjusted dates' flags' unadjusted' = rw (d, f, u) at w in
      let k = as_many_unadjusted q closed 4096 4096 4096 in
      let n = never_refused_zero q closed in
      record {
        put = rw (shown_built (entries_of q closed 4096 4096 4096) k n v z) at p;
        within = put_within _ p;
        short = built_short q closed;
      }

-- ---- a request
module _ {r : Result Decoded Refusal} {closed closed' : List ℕ} where
  asked_replies : (o : Answer Asked) (d : Decoded) {old new : List ℕ} {end : ℕ} → Decodes o r closed closed' → r ≡ Ok d → Replies (built_text (entries_of d.request (take d.closed closed') 4096 4096 4096)) old end new → Replies (asked_text o) old end new
  unfolding asked_text counted closed_dates_after
  asked_replies (given a) d {old} {new} {end} w e p =
      let same : d ≡ record { request = a.request; closed = length a.closed } = one_given (answered r) _ _ (ap answered e) w.answer in
      let n : length a.closed ≡ d.closed = sym (ap (λ (x : Decoded). x.closed) same) in
      let q : d.request ≡ a.request = ap (λ (x : Decoded). x.request) same in
      let c : closed' ≡ over a.closed closed = w.dates in
      let t : take d.closed closed' ≡ a.closed = rw (sym n, c) (take_over a.closed closed) in
      rw (t, q) at p
  asked_replies (refused n) d w e p = absurd (never_both (answered r) d n (ap answered e) w.answer)

  refused_replies : (o : Answer Asked) (k : Refusal) {old new : List ℕ} {end : ℕ} → Decodes o r closed closed' → r ≡ Err k → Put (fitting (refusal_text (number_of k)) (length old)) 0 old end new → Replies (asked_text o) old end new
  unfolding asked_text counted
  refused_replies (given a) k w e p = absurd (never_both (answered r) _ (number_of k) w.answer (ap answered e))
  refused_replies (refused m) k w e p =
      let both : ◌≡◌ {A = Answer Decoded} (refused (number_of k)) (refused m) = sym (ap answered e) ∙ w.answer in
      let same : number_of k ≡ m = cc in
      record { put = rw same at p; within = put_within _ p; short = refusal_fits m }

  asked_count : (o : Answer Asked) (d : Decoded) → Decodes o r closed closed' → r ≡ Ok d → d.closed ≤ length closed'
  unfolding counted closed_dates_after
  asked_count (given a) d w e =
      let same : d ≡ record { request = a.request; closed = length a.closed } = one_given (answered r) _ _ (ap answered e) w.answer in
      let n : length a.closed ≡ d.closed = sym (ap (λ (x : Decoded). x.closed) same) in
      let c : closed' ≡ over a.closed closed = w.dates in
      omega (arith, over_length a.closed closed, ap length c)
  asked_count (refused n) d w e = absurd (never_both (answered r) d n (ap answered e) w.answer)

  module _ (bytes : List ℕ) (w : Decodes (decoded bytes (length closed)) r closed closed') where
    pub served : (d : Decoded) {old new : List ℕ} {end : ℕ} → length closed ≡ 4096 → r ≡ Ok d → Replies (built_text (entries_of d.request (take d.closed closed') 4096 4096 4096)) old end new → Replies (reply_text bytes) old end new
    unfolding reply_text
    served d l e p = asked_replies (decoded bytes 4096) d (rw l at w) e p

    pub turned_away : (k : Refusal) {old new : List ℕ} {end : ℕ} → length closed ≡ 4096 → r ≡ Err k → Put (fitting (refusal_text (number_of k)) (length old)) 0 old end new → Replies (reply_text bytes) old end new
    unfolding reply_text
    turned_away k l e p = refused_replies (decoded bytes 4096) k (rw l at w) e p

    pub served_count : (d : Decoded) → r ≡ Ok d → d.closed ≤ length closed'
    served_count d e = asked_count (decoded bytes (length closed)) d w e

-- ---- a text in 106,519 bytes
pub printed_whole : (text : List ℕ) {old new : List ℕ} {end : ℕ} → length old ≡ 106519 → Replies text old end new → Printed text old end new
unfolding fitting
printed_whole text {old} l p =
    record { put = rw (le-leb (length text) (length old) (omega (arith, p.short))) at p.put; within = p.within }

-- ---- the lists that are lent
fresh_zero : (n i : ℕ) → ◌≡◌ {A = ℕ} (get_or (replicate n 0) i 0) 0
fresh_zero zero i = refl
fresh_zero (suc n) zero = refl
fresh_zero (suc n) (suc i) = fresh_zero n i

pub zeros_fresh : (n : ℕ) → Zeros (replicate n 0)
zeros_fresh n = record { zero_at = fresh_zero n }
