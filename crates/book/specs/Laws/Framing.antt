-- A book's requests, one taken off the front.
-- Assumes nothing.
use Rattle.std.specs.Prelude.{ℕ, zero, suc, ◌+◌, ◌≤◌, ◌<◌, ◌≡◌, refl, List, [], ◌∷◌, length}
use Rattle.std.proofs.Common.{arith, leb-true}
use Rattle.refusal.specs.Answer.{given, BATCH}
use Rattle.refusal.specs.Laws.Answers.{need_given, then_stepped, one_given, never_both}
use Rattle.book.specs.Framing.{size_of, body_of, behind, unless_cut, or_none, requests_from}

-- what bytes that are a book, and some, begin with
pub record Took (left : ℕ) (s : List ℕ) (rs : List (List ℕ)) : Type 0 where
  pub more : ℕ
  pub one_more : left ≡ suc more
  pub led : 2 ≤ length s
  pub whole : 2 + size_of s ≤ length s
  pub others : List (List ℕ)
  pub first : body_of s ∷ others ≡ rs
  pub onward : requests_from more (behind s) ≡ given others

pub took : (left : ℕ) (s : List ℕ) (rs : List (List ℕ)) → 0 < length s → requests_from left s ≡ given rs → Took left s rs
unfolding requests_from or_none unless_cut
took left [] rs h e = absurd (let bad : ⊥ = omega arith in bad)
took zero (b ∷ s) rs h e = absurd (never_both _ rs BATCH e refl)
took (suc left) (b ∷ s) rs h e =
    let p = need_given BATCH _ _ rs e in
    let q = need_given BATCH _ _ rs p.1 in
    let t = then_stepped _ _ rs q.1 in
    record {
      more = left;
      one_more = refl;
      led = leb-true 2 (length (b ∷ s)) p.0;
      whole = leb-true _ (length (b ∷ s)) q.0;
      others = t.value;
      first = one_given _ _ rs refl t.to;
      onward = t.from;
    }

-- no bytes are no requests
pub none_left : (left : ℕ) (s : List ℕ) (rs : List (List ℕ)) → length s ≡ 0 → requests_from left s ≡ given rs → [] ≡ rs
unfolding requests_from or_none
none_left zero [] rs h e = one_given _ _ rs refl e
none_left (suc left) [] rs h e = one_given _ _ rs refl e
none_left left (b ∷ s) rs h e = absurd (let bad : ⊥ = omega arith in bad)
