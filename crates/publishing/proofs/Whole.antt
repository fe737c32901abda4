-- The file put whole, and the ways through the export.
-- Assumes nothing.
use Prim.Native.Nat.{ℕ, ◌+◌, ◌*◌, ◌≤◌, ◌<◌}
use mathlib.Core.Path.{◌≡◌, refl, ap, sym, ◌∙◌}
use mathlib.Core.Bool.{Bool, true, false, not, false≢true}
use mathlib.Core.List.{List, [], ◌∷◌, ◌++◌, append_assoc}
use native.Mathlib.Omega.{arith}
use mir.Syntax.{w32}
use mir.Val.{Fits}
use lib.Dec.{leb}
use lib.ListN.{length, drop, take-append-drop}
use borrow.Author.Tests.{le-leb, lt-leb}
use borrow.Author.Rules.{rules}
use Rattle.refusal.specs.Answer.{Answer, given, refused, need, CALENDAR, ROOM, ICAL}
use Rattle.refusal.specs.Laws.Answers.{fails, holds}
use Rattle.calendar.specs.Open.{closed_ok}
use Rattle.holidays.specs.Words.{Bytes, ascii}
use Rattle.std.specs.Prelude.{Ok, Err}
use Rattle.refusal.specs.declared.Refusal.{Refusal}
use Rattle.refusal.specs.declared.Refusal.TheVariants.{Calendar, Room, Ical}
use Rattle.refusal.specs.Refusals.{number_of}
use Rattle.publishing.specs.File.{before, behind, all_events, written, runs_of, file_of, export_of}
use Rattle.publishing.specs.Promise.{answer_of, bytes_of, Exports}
use Rattle.publishing.specs.Inner.Put.{Put}
use Rattle.publishing.specs.Laws.Sizes.{events_size, file_parts, file_size}
use Rattle.publishing.proofs.Putting.{put_then}

-- ---- the file: the first lines, the events, the last line
abbrev pub FIRST : Bytes
FIRST = ascii "BEGIN:VCALENDAR" ++ (13 ∷ 10 ∷ (ascii "VERSION:2.0" ++ (13 ∷ 10 ∷ (ascii "PRODID:-//Heronspan//EN" ++ (13 ∷ 10 ∷ [])))))

abbrev pub LAST : Bytes
LAST = ascii "END:VCALENDAR" ++ (13 ∷ 10 ∷ [])

pub file_put : (list : List ℕ) {at m₁ m₂ end : ℕ} {old n₁ n₂ new : List ℕ} → Put LAST m₂ n₂ end new → Put (written (all_events (runs_of list))) m₁ n₁ m₂ n₂ → Put FIRST at old m₁ n₁ → Put (file_of list) at old end new
unfolding before behind written ascii
file_put list p₃ p₂ p₁ =
    rw (file_parts list) (rw (append_assoc (written before) (written (all_events (runs_of list))) (written behind)) at (put_then (put_then p₁ p₂) p₃))

pub last_room : (list old : List ℕ) {m₁ m₂ : ℕ} {n₁ n₂ : List ℕ} → Put (written (all_events (runs_of list))) m₁ n₁ m₂ n₂ → m₁ ≡ 55 → length n₁ ≡ length old → 132 * length (runs_of list) + 70 ≤ length old → m₂ + 15 ≤ length n₂
last_room list old p e s h = omega (arith, p.ends, p.size, events_size (runs_of list))

-- ---- the ways through the export
module _ (list file : List ℕ) where
  refuses : (r : Refusal) → refused (number_of r) ≡ export_of list (length file) → Exports list file (Err r) file
  unfolding answer_of bytes_of
  refuses r e = record { answer = ap answer_of e; bytes = ap (λ (a : Answer Bytes). bytes_of a file) e }

  kept : (t : Bool) → t ≡ closed_ok list → not t ≡ false → closed_ok list ≡ true
  kept true e h = sym e
  kept false e h = absurd (false≢true (sym h))

  broke : (t : Bool) → t ≡ closed_ok list → not t ≡ true → closed_ok list ≡ false
  broke true e h = absurd (false≢true h)
  broke false e h = sym e

  pub breaks_rule : (t : Bool) → t ≡ closed_ok list → not t ≡ true → Exports list file (Err Calendar) file
  unfolding export_of
  breaks_rule t e h = refuses Calendar (fails CALENDAR (closed_ok list) _ (broke t e h))

  pub keeps_rule : (t : Bool) → t ≡ closed_ok list → not t ≡ false → closed_ok list ≡ true
  keeps_rule t e h = kept t e h

  module _ (t : Bool) (e : t ≡ closed_ok list) (h : not t ≡ false) (runs : ℕ) (counted : runs ≡ length (runs_of list)) where
    too_large : 495 < runs → refused ICAL ≡ export_of list (length file)
    unfolding export_of
    too_large l =
        holds CALENDAR (closed_ok list) _ _ (kept t e h)
        (fails ICAL (leb (length (file_of list)) 65536) _ (lt-leb (length (file_of list)) 65536 (omega (arith, file_size list))))

    pub over_size : 495 < runs → Exports list file (Err Ical) file
    over_size l = refuses Ical (too_large l)

    module _ (l : runs ≤ 495) where
      within : (a : Answer Bytes) → a ≡ need ROOM (leb (length (file_of list)) (length file)) (given (file_of list)) → a ≡ export_of list (length file)
      unfolding export_of
      within a q =
          holds CALENDAR (closed_ok list) _ _ (kept t e h)
          (holds ICAL (leb (length (file_of list)) 65536) _ _ (le-leb (length (file_of list)) 65536 (omega (arith, file_size list))) q)

      pub no_room : length file < 132 * runs + 70 → Exports list file (Err Room) file
      no_room r =
          refuses Room (within (refused ROOM) (fails ROOM (leb (length (file_of list)) (length file)) _ (lt-leb (length (file_of list)) (length file) (omega (arith, file_size list)))))

      module _ (r : 132 * runs + 70 ≤ length file) where
        pub file_room : 132 * length (runs_of list) + 70 ≤ length file
        file_room = omega arith

        module _ (size : ℕ) (file' : List ℕ) (p : Put (file_of list) 0 file size file') where
          pub size_fits : Fits w32 size
          size_fits = record { fits = omega (arith, p.ends, file_size list) }

          pub exports : Exports list file (Ok size) file'
          unfolding answer_of bytes_of
          exports =
              let q : given (file_of list) ≡ export_of list (length file) = within (given (file_of list)) (holds ROOM (leb (length (file_of list)) (length file)) _ _ (le-leb (length (file_of list)) (length file) (omega (arith, file_size list))) refl) in
              let n : size ≡ length (file_of list) = omega (arith, p.ends) in
              record {
                answer = ap (λ (k : ℕ). given k) n ∙ ap answer_of q;
                bytes = sym (take-append-drop size file') ∙ ap (λ (s : List ℕ). s ++ drop size file') p.before ∙ ap (λ (s : List ℕ). file_of list ++ s) (p.behind ∙ ap (λ (k : ℕ). drop k file) n) ∙ ap (λ (a : Answer Bytes). bytes_of a file) q;
              }

pub ruleset ways = (breaks_rule, keeps_rule, over_size, no_room, file_room, size_fits, exports, rules)
