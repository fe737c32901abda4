-- Texts put one behind the other are one text put.
-- Assumes nothing.
use Prim.Native.Nat.{ℕ, ◌+◌, ◌/◌, ◌≤◌, ◌<◌}
use mathlib.Core.Path.{◌≡◌, refl, ap, sym, ◌∙◌}
use mathlib.Core.List.{List, [], ◌∷◌, ◌++◌, append_assoc, append-nil}
use native.Mathlib.Omega.{arith}
use lib.ListN.{length, take, drop, length-append, length-drop}
use lib.Seq.{drop-drop, length-take-le, take-append_seam, drop-append_seam}
use borrow.Author.Rules.{rules}
use Rattle.date.specs.declared.Fields.{Fields}
use Rattle.date.specs.Civil.{fields_of}
use Rattle.holidays.specs.Words.{Bytes, ascii}
use Rattle.publishing.specs.File.{two_digits, date_text, event_lines, written}
use Rattle.publishing.specs.Inner.Put.{Put, PutDate}

pub put_none : (at : ℕ) (out : List ℕ) → Put [] at out at out
put_none at out = record { ends = omega arith; before = sym (append-nil _); behind = refl; size = refl }

module _ {a b : List ℕ} {at middle end : ℕ} {old new newer : List ℕ} (p : Put a at old middle new) (q : Put b middle new end newer) where
  rest : drop end new ≡ drop end old
  rest =
      let e : end ≡ middle + length b = q.ends in
      rw e (sym (drop-drop (length b) middle new) ∙ ap (λ (l : List ℕ). drop (length b) l) p.behind ∙ drop-drop (length b) middle old)

  pub put_then : Put (a ++ b) at old end newer
  put_then =
      record {
        ends = omega (arith, length-append a b, p.ends, q.ends);
        before = q.before ∙ ap (λ (l : List ℕ). l ++ b) p.before ∙ append_assoc (take at old) a b;
        behind = q.behind ∙ rest;
        size = q.size ∙ p.size;
      }

-- ---- a text put at once, over the bytes that stood there
pub put_over : (text old : List ℕ) (at n : ℕ) {part : List ℕ} → at + length text ≤ length old → part ≡ text → n ≡ length text → Put text at old (at + length text) (take at old ++ (part ++ drop n (drop at old)))
put_over text old at m {part} h e q =
    let f : drop m (drop at old) ≡ drop (at + length text) old = drop-drop m at old ∙ ap (λ (k : ℕ). drop (at + k) old) q in
    let n : length (take at old ++ text) ≡ at + length text = length-append (take at old) text ∙ ap (λ (k : ℕ). k + length text) (length-take-le at old (omega arith)) in
    let whole : take at old ++ (part ++ drop m (drop at old)) ≡ (take at old ++ text) ++ drop (at + length text) old = rw (e, f) (sym (append_assoc (take at old) text (drop (at + length text) old))) in
    record {
      ends = refl;
      before = ap (take (at + length text)) whole ∙ ap (λ (k : ℕ). take k ((take at old ++ text) ++ drop (at + length text) old)) (sym n) ∙ take-append_seam (take at old ++ text) (drop (at + length text) old);
      behind = ap (drop (at + length text)) whole ∙ ap (λ (k : ℕ). drop k ((take at old ++ text) ++ drop (at + length text) old)) (sym n) ∙ drop-append_seam (take at old ++ text) (drop (at + length text) old);
      size = ap length whole ∙ length-append (take at old ++ text) (drop (at + length text) old) ∙ omega (arith, n, length-drop (at + length text) old);
    }

-- ---- a date, an event and the file: the last part first
module _ (day : ℕ) (f : Fields) {at m₁ m₂ m₃ end : ℕ} {old n₁ n₂ n₃ new : List ℕ} (e : f ≡ fields_of day) (p₄ : Put (two_digits f.day) m₃ n₃ end new) (p₃ : Put (two_digits f.month) m₂ n₂ m₃ n₃) (p₂ : Put (two_digits f.year) m₁ n₁ m₂ n₂) (p₁ : Put (two_digits (f.year / 100)) at old m₁ n₁) where
  pub date_put : PutDate day at old end new
  unfolding date_text
  date_put =
      record {
        text = rw (sym e) (put_then (put_then (put_then p₁ p₂) p₃) p₄);
        eight = omega (arith, p₁.ends, p₂.ends, p₃.ends, p₄.ends);
      }

-- the bytes of an event between its dates
abbrev pub UID : Bytes
UID = ascii "BEGIN:VEVENT" ++ (13 ∷ 10 ∷ ascii "UID:")

abbrev pub START : Bytes
START = ascii "@heronspan" ++ (13 ∷ 10 ∷ (ascii "DTSTAMP:19700101T000000Z" ++ (13 ∷ 10 ∷ ascii "DTSTART;VALUE=DATE:")))

abbrev pub STOP : Bytes
STOP = 13 ∷ 10 ∷ ascii "DTEND;VALUE=DATE:"

abbrev pub END : Bytes
END = 13 ∷ 10 ∷ (ascii "END:VEVENT" ++ (13 ∷ 10 ∷ []))

pub event_put : (first past : ℕ) {at m₁ m₂ m₃ m₄ m₅ m₆ end : ℕ} {old n₁ n₂ n₃ n₄ n₅ n₆ new : List ℕ} → Put END m₆ n₆ end new → PutDate past m₅ n₅ m₆ n₆ → Put STOP m₄ n₄ m₅ n₅ → PutDate first m₃ n₃ m₄ n₄ → Put START m₂ n₂ m₃ n₃ → PutDate first m₁ n₁ m₂ n₂ → Put UID at old m₁ n₁ → Put (written (event_lines (record { first = first; past = past }))) at old end new
unfolding date_text written event_lines ascii
event_put first past p₇ p₆ p₅ p₄ p₃ p₂ p₁ =
    put_then (put_then (put_then (put_then (put_then (put_then p₁ p₂.text) p₃) p₄.text) p₅) p₆.text) p₇
