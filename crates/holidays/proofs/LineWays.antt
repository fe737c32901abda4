-- Laws of the ways along an unfolded line and past it: one for each way through the code.
-- Assumes nothing.
use Prim.Native.Nat.{ℕ, suc, ◌+◌, ◌-◌, ◌≤◌, ◌<◌}
use mathlib.Core.Path.{◌≡◌, refl, sym, ap, ◌∙◌, subst}
use mathlib.Core.Bool.{Bool, true, false, false≢true, ◌&&◌, ◌||◌}
use mathlib.Core.List.{[], ◌∷◌}
use native.Mathlib.Numerals.{add-one}
use native.Mathlib.Omega.{arith}
use lib.Dec.{eqb}
use lib.ListN.{length, drop, get_or, drop_of_length-le, length-drop}
use lib.Seq.{drop-cons, drop-drop}
use borrow.Author.Rules.{rules}
use borrow.Author.Tests.{eq-eqb, ne_eqb}
use Rattle.std.specs.Prelude.{None, Some}
use Rattle.holidays.specs.Words.{Bytes, LF, CR}
use Rattle.holidays.specs.Lines.{starts_with}
use Rattle.holidays.specs.Inner.Cut.{Cut, cut_byte, cut_start, cut_from, folds}
use Rattle.holidays.specs.Inner.Along.{cut_at, ahead, Before, IsStepped, Steps, Skipping, Clears, Skipped}

-- ---- one byte of a cut: only line feeds, and the byte behind each, count for what lies behind
cut_other : (n b : ℕ) (s : Bytes) → eqb b LF ≡ false → ((cut_from false n (b ∷ s)).rest ≡ (cut_from false n s).rest) × ((cut_from false n (b ∷ s)).number ≡ (cut_from false n s).number)
unfolding cut_from cut_byte
cut_other n b s h = rw h (go (eqb b CR && starts_with LF s))
  where
    go : (y : Bool) → ((cut_byte false y b (cut_from true (suc n) s) (cut_from false n s)).rest ≡ (cut_from false n s).rest) × ((cut_byte false y b (cut_from true (suc n) s) (cut_from false n s)).number ≡ (cut_from false n s).number)
    go true = (refl, refl)
    go false = (refl, refl)

cut_fold : (n b : ℕ) (s : Bytes) → eqb b LF ≡ true → folds s ≡ true → cut_from false n (b ∷ s) ≡ cut_from false (suc n) (drop 1 s)
unfolding cut_from cut_byte cut_start folds
cut_fold n b [] h f = absurd (false≢true f)
cut_fold n b (c ∷ s) h f = rw (h, f)

cut_end : (n b : ℕ) (s : Bytes) → eqb b LF ≡ true → folds s ≡ false → cut_from false n (b ∷ s) ≡ record { bytes = []; number = suc n; rest = s }
unfolding cut_from cut_byte cut_start folds
cut_end n b [] h f = rw h
cut_end n b (c ∷ s) h f = rw (h, f)

folds_some : (s : Bytes) → folds s ≡ true → 1 ≤ length s
unfolding folds
folds_some [] f = absurd (false≢true f)
folds_some (b ∷ s) f = omega arith

-- ---- what the loop keeps
pub skip_start : {file : Bytes} {at line : ℕ} → Before file at line → Skipping file at line at line
skip_start b = record { rest = refl; number = refl; before = b; later = omega arith }

module _ {file : Bytes} {at line i n : ℕ} (k : Skipping file at line i n) where
  front : i < length file → drop i file ≡ get_or file i 0 ∷ drop (i + 1) file
  front h = drop-cons file i 0 h ∙ ap (λ (j : ℕ). get_or file i 0 ∷ drop j file) (sym (add-one i))

  pub skip_byte : i < length file → (get_or file i 0 ≡ 10 → ⊥) → Skipping file at line (i + 1) n
  skip_byte h o =
      let c = cut_other n (get_or file i 0) (drop (i + 1) file) (ne_eqb _ _ o) in
      let b = k.before in
      record {
        rest = sym c.0 ∙ ap (λ (s : Bytes). (cut_from false n s).rest) (sym (front h)) ∙ k.rest;
        number = sym c.1 ∙ ap (λ (s : Bytes). (cut_from false n s).number) (sym (front h)) ∙ k.number;
        before = record { inside = omega arith; short = b.short; low = omega (arith, b.low) };
        later = omega (arith, k.later);
      }

  -- at a line feed
  module _ {r : Bool} (h : i < length file) (o : get_or file i 0 ≡ 10) (e : r ≡ folds (drop (i + 1) file)) where
    pub skip_fold : r ≡ true → Skipping file at line (i + 2) (n + 1)
    skip_fold t =
        let b = k.before in
        let f : folds (drop (i + 1) file) ≡ true = sym e ∙ t in
        let j : i + 1 + 1 ≡ i + 2 = omega arith in
        let w : drop 1 (drop (i + 1) file) ≡ drop (i + 2) file = drop-drop 1 (i + 1) file ∙ ap (λ (m : ℕ). drop m file) j in
        let c : cut_from false (n + 1) (drop (i + 2) file) ≡ cut_from false n (drop i file) =
        ap (λ (m : ℕ). cut_from false m (drop (i + 2) file)) (add-one n) ∙ ap (cut_from false (suc n)) (sym w) ∙ sym (cut_fold n (get_or file i 0) (drop (i + 1) file) (eq-eqb _ _ o) f) ∙ ap (cut_from false n) (sym (front h)) in
        record {
          rest = ap (λ (x : Cut). x.rest) c ∙ k.rest;
          number = ap (λ (x : Cut). x.number) c ∙ k.number;
          before = record { inside = omega (arith, folds_some (drop (i + 1) file) f, length-drop (i + 1) file); short = b.short; low = omega (arith, b.low) };
          later = omega (arith, k.later);
        }

    pub skip_end : r ≡ false → Skipped file at line (record { at = i + 1; line = n + 1 })
    skip_end t =
        let b = k.before in
        let c : cut_from false n (drop i file) ≡ record { bytes = []; number = suc n; rest = drop (i + 1) file } =
        ap (cut_from false n) (front h) ∙ cut_end n (get_or file i 0) (drop (i + 1) file) (eq-eqb _ _ o) (sym e ∙ t) in
        record {
          rest = sym k.rest ∙ ap (λ (x : Cut). x.rest) c;
          number = sym k.number ∙ ap (λ (x : Cut). x.number) c ∙ sym (add-one n);
          before = record { inside = omega arith; short = b.short; low = omega (arith, b.low) };
          later = omega (arith, k.later);
        }

  pub skip_over : length file ≤ i → Skipped file at line (record { at = i; line = n })
  unfolding cut_from
  skip_over h =
      let d : drop i file ≡ [] = drop_of_length-le file h in
      record {
        rest = sym k.rest ∙ ap (λ (s : Bytes). (cut_from false n s).rest) d ∙ sym d;
        number = sym k.number ∙ ap (λ (s : Bytes). (cut_from false n s).number) d;
        before = k.before;
        later = k.later;
      }

-- ---- eight bytes at a time
pub not_clear : (file : Bytes) (at : ℕ) → Clears file at false
not_clear file at = record { so = λ e. absurd (false≢true e) }

pub clear_eight : (file : Bytes) (at : ℕ) → 8 ≤ length file → at ≤ length file - 8 → (get_or file at 0 ≡ 10 → ⊥) → (get_or file (at + 1) 0 ≡ 10 → ⊥) → (get_or file (at + 2) 0 ≡ 10 → ⊥) → (get_or file (at + 3) 0 ≡ 10 → ⊥) → (get_or file (at + 4) 0 ≡ 10 → ⊥) → (get_or file (at + 5) 0 ≡ 10 → ⊥) → (get_or file (at + 6) 0 ≡ 10 → ⊥) → (get_or file (at + 7) 0 ≡ 10 → ⊥) → Clears file at true
clear_eight file at h l b₀ b₁ b₂ b₃ b₄ b₅ b₆ b₇ =
    record { so = λ q. record { within = omega arith; b₀ = b₀; b₁ = b₁; b₂ = b₂; b₃ = b₃; b₄ = b₄; b₅ = b₅; b₆ = b₆; b₇ = b₇ } }

module _ {file : Bytes} {at line n : ℕ} where
  one_on : (i k : ℕ) → Skipping file at line (i + k) n → i + k < length file → (get_or file (i + k) 0 ≡ 10 → ⊥) → Skipping file at line (i + (k + 1)) n
  one_on i k s h o = let e : i + k + 1 ≡ i + (k + 1) = omega arith in subst (λ (j : ℕ). Skipping file at line j n) e (skip_byte s h o)

  pub skip_eight : {i : ℕ} {r : Bool} → Skipping file at line i n → Clears file i r → r ≡ true → Skipping file at line (i + 8) n
  skip_eight {i} s c t =
      let e = c.so t in
      let w : i + 8 ≤ length file = e.within in
      one_on i 7 (one_on i 6 (one_on i 5 (one_on i 4 (one_on i 3 (one_on i 2 (one_on i 1 (skip_byte s (omega arith) e.b₀) (omega arith) e.b₁) (omega arith) e.b₂) (omega arith) e.b₃) (omega arith) e.b₄) (omega arith) e.b₅) (omega arith) e.b₆) (omega arith) e.b₇

pub eight_within : {file : Bytes} {i : ℕ} {r : Bool} → Clears file i r → r ≡ true → i + 8 ≤ length file
eight_within c t = (c.so t).within

pub ruleset strides = (skip_start, skip_eight, not_clear, clear_eight, rules)

-- ---- a blank or a tab
fold_at : (file : Bytes) (at : ℕ) → at < length file → folds (drop at file) ≡ (eqb (get_or file at 0) 32 || eqb (get_or file at 0) 9)
unfolding folds
fold_at file at h = ap folds (drop-cons file at 0 h)

pub fold_blank : (file : Bytes) (at : ℕ) → at < length file → get_or file at 0 ≡ 32 → eqb (get_or file at 0) 32 ≡ folds (drop at file)
fold_blank file at h e = rw (fold_at file at h, eq-eqb (get_or file at 0) 32 e)

pub fold_tab : (file : Bytes) (at : ℕ) → at < length file → (get_or file at 0 ≡ 32 → ⊥) → eqb (get_or file at 0) 9 ≡ folds (drop at file)
fold_tab file at h e = rw (fold_at file at h, ne_eqb (get_or file at 0) 32 e)

pub fold_behind : (file : Bytes) (at : ℕ) → length file ≤ at → false ≡ folds (drop at file)
unfolding folds
fold_behind file at h = sym (ap folds (drop_of_length-le file h))

pub ruleset skips = (skip_start, skip_byte, skip_fold, skip_end, skip_over, fold_blank, fold_tab, fold_behind, rules)

-- ---- the next byte
cut_plain : (n b : ℕ) (s : Bytes) → eqb b LF ≡ false → (eqb b CR && starts_with LF s) ≡ false → cut_from false n (b ∷ s) ≡ record { bytes = b ∷ (cut_from false n s).bytes; number = (cut_from false n s).number; rest = (cut_from false n s).rest }
unfolding cut_from cut_byte
cut_plain n b s h g = rw (h, g)

cut_return : (n b : ℕ) (s : Bytes) → eqb b LF ≡ false → eqb b CR ≡ true → starts_with LF s ≡ true → cut_from false n (b ∷ s) ≡ cut_from false n s
unfolding cut_from cut_byte
cut_return n b s h g f = rw (h, g, f)

pub record Nexting (file : Bytes) (at line i n : ℕ) : Type 0 where
  pub same : cut_at file i n ≡ cut_at file at line
  pub before : Before file i n
  pub later : at ≤ i

pub next_start : {file : Bytes} {at line : ℕ} → Before file at line → Nexting file at line at line
next_start b = record { same = refl; before = b; later = omega arith }

module _ {file : Bytes} {at line i n : ℕ} (k : Nexting file at line i n) where
  first : i < length file → drop i file ≡ get_or file i 0 ∷ drop (i + 1) file
  first h = drop-cons file i 0 h ∙ ap (λ (j : ℕ). get_or file i 0 ∷ drop j file) (sym (add-one i))

  pub next_over : length file ≤ i → Steps file at line None
  unfolding cut_from IsStepped
  next_over h =
      let d : drop i file ≡ [] = drop_of_length-le file h in
      record { so = ap (λ (c : Cut). c.bytes) (sym k.same) ∙ ap (λ (s : Bytes). (cut_from false n s).bytes) d }

  module _ {r : Bool} (h : i < length file) (o : get_or file i 0 ≡ 10) (e : r ≡ folds (drop (i + 1) file)) where
    pub next_fold : r ≡ true → Nexting file at line (i + 2) (n + 1)
    next_fold t =
        let b = k.before in
        let f : folds (drop (i + 1) file) ≡ true = sym e ∙ t in
        let j : i + 1 + 1 ≡ i + 2 = omega arith in
        let w : drop 1 (drop (i + 1) file) ≡ drop (i + 2) file = drop-drop 1 (i + 1) file ∙ ap (λ (m : ℕ). drop m file) j in
        record {
          same = ap (λ (m : ℕ). cut_from false m (drop (i + 2) file)) (add-one n) ∙ ap (cut_from false (suc n)) (sym w) ∙ sym (cut_fold n (get_or file i 0) (drop (i + 1) file) (eq-eqb _ _ o) f) ∙ ap (cut_from false n) (sym (first h)) ∙ k.same;
          before = record { inside = omega (arith, folds_some (drop (i + 1) file) f, length-drop (i + 1) file); short = b.short; low = omega (arith, b.low) };
          later = omega (arith, k.later);
        }

    pub next_end : r ≡ false → Steps file at line None
    unfolding IsStepped
    next_end t =
        record { so = ap (λ (c : Cut). c.bytes) (sym k.same ∙ ap (cut_from false n) (first h) ∙ cut_end n (get_or file i 0) (drop (i + 1) file) (eq-eqb _ _ o) (sym e ∙ t)) }

  -- any other byte
  module _ (h : i < length file) (o : get_or file i 0 ≡ 10 → ⊥) where
    plain : (eqb (get_or file i 0) CR && starts_with LF (drop (i + 1) file)) ≡ false → Steps file at line (Some (get_or file i 0, record { at = i + 1; line = n }))
    unfolding IsStepped
    plain e =
        let b = k.before in
        let c : cut_at file at line ≡ record { bytes = get_or file i 0 ∷ ahead file (i + 1) n; number = (cut_at file (i + 1) n).number; rest = (cut_at file (i + 1) n).rest } = sym k.same ∙ ap (cut_from false n) (first h) ∙ cut_plain n (get_or file i 0) (drop (i + 1) file) (ne_eqb _ _ o) e in
        record {
          so = record {
            bytes = ap (λ (x : Cut). x.bytes) c;
            inside = record {
              rest = sym (ap (λ (x : Cut). x.rest) c);
              number = sym (ap (λ (x : Cut). x.number) c);
              before = record { inside = omega arith; short = b.short; low = omega (arith, b.low) };
              later = omega (arith, k.later);
              far = omega (arith, ap (λ (x : Cut). length x.bytes) c, k.later);
            };
            further = omega (arith, k.later);
          };
        }

    pub next_byte : (get_or file i 0 ≡ 13 → ⊥) → Steps file at line (Some (get_or file i 0, record { at = i + 1; line = n }))
    next_byte g = plain (ap (λ (x : Bool). x && starts_with LF (drop (i + 1) file)) (ne_eqb _ _ g))

    module _ {r : Bool} (e : r ≡ starts_with 10 (drop (i + 1) file)) where
      pub next_lone : r ≡ false → Steps file at line (Some (get_or file i 0, record { at = i + 1; line = n }))
      next_lone f = plain (go (eqb (get_or file i 0) CR))
        where
          go : (x : Bool) → (x && starts_with LF (drop (i + 1) file)) ≡ false
          go true = sym e ∙ f
          go false = refl

      pub next_return : get_or file i 0 ≡ 13 → r ≡ true → Nexting file at line (i + 1) n
      next_return g f =
          let b = k.before in
          record {
            same = sym (cut_return n (get_or file i 0) (drop (i + 1) file) (ne_eqb _ _ o) (eq-eqb _ _ g) (sym e ∙ f)) ∙ ap (cut_from false n) (sym (first h)) ∙ k.same;
            before = record { inside = omega arith; short = b.short; low = omega (arith, b.low) };
            later = omega (arith, k.later);
          }

-- ---- a line feed
feed_at : (file : Bytes) (at : ℕ) → at < length file → starts_with 10 (drop at file) ≡ eqb (get_or file at 0) 10
unfolding starts_with
feed_at file at h = ap (starts_with 10) (drop-cons file at 0 h)

pub feed_here : (file : Bytes) (at : ℕ) → at < length file → eqb (get_or file at 0) 10 ≡ starts_with 10 (drop at file)
feed_here file at h = sym (feed_at file at h)

pub feed_behind : (file : Bytes) (at : ℕ) → length file ≤ at → false ≡ starts_with 10 (drop at file)
unfolding starts_with
feed_behind file at h = sym (ap (starts_with 10) (drop_of_length-le file h))

pub ruleset nexts = (next_start, next_over, next_fold, next_end, next_byte, next_lone, next_return, feed_here, feed_behind, rules)
