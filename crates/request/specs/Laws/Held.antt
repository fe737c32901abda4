-- What a request that was read holds, and where its closed dates stand.
-- Assumes nothing.
use Rattle.std.specs.Prelude.{ℕ, ◌-◌, ◌≤◌, ◌≡◌, refl, List, length, take, drop, Result, Ok, Err}
use Rattle.std.proofs.Common.{ap, sym, subst, ◌∙◌, arith, take_at, leb-true}
use Rattle.refusal.specs.declared.Refusal.{Refusal}
use Rattle.refusal.specs.Refusals.{number_of}
use Rattle.refusal.specs.Answer.{Answer, given, refused, answered}
use Rattle.refusal.specs.Laws.Answers.{need_given, then_stepped, one_given, never_both}
use Rattle.steps.specs.declared.Request.{Request}
use Rattle.steps.specs.Build.{over}
use Rattle.request.specs.declared.Decoded.{Decoded}
use Rattle.request.specs.Format.{Asked, asked_from, asked_in, decoded}
use Rattle.request.specs.Decode.{counted, closed_dates_after}

-- the closed dates of a request that was read had room
pub read_fits : (s : List ℕ) (room : ℕ) (a : Asked) → decoded s room ≡ given a → length a.closed ≤ room
unfolding decoded asked_in asked_from
read_fits s room a h =
    let p = need_given 17 _ _ a h in
    let q = then_stepped _ _ a p.1 in
    let u = need_given 17 _ _ a q.to in
    let w = need_given 14 _ _ a u.1 in
    subst (λ (x : Asked). length x.closed ≤ room) (one_given _ _ a refl w.1) (leb-true _ _ w.0)

-- what a request that was read holds
pub record Held (o : Answer Asked) (q : Request) (n : ℕ) : Type 0 where
  pub asked : Asked
  pub from : o ≡ given asked
  pub request : asked.request ≡ q
  pub count : length asked.closed ≡ n

pub held : (o : Answer Asked) (r : Result Decoded Refusal) (d : Decoded) → answered r ≡ counted o → r ≡ Ok d → Held o d.request d.closed
unfolding counted
held (given a) r d p e =
    let same : record { request = a.request; closed = length a.closed } ≡ d = one_given (answered r) _ d p (ap answered e) in
    record { asked = a; from = refl; request = ap (λ (x : Decoded). x.request) same; count = ap (λ (x : Decoded). x.closed) same }
held (refused n) r d p e = absurd (never_both (answered r) d n (ap answered e) p)

pub unread : (o : Answer Asked) (r : Result Decoded Refusal) (k : Refusal) → answered r ≡ counted o → r ≡ Err k → o ≡ refused (number_of k)
unfolding counted
unread (given a) r k p e = absurd (never_both (answered r) _ (number_of k) p (ap answered e))
unread (refused n) r k p e =
    let same : ◌≡◌ {A = Answer Decoded} (refused n) (refused (number_of k)) = sym p ∙ ap answered e in
    ap refused (let q : n ≡ number_of k = cc in q)

-- its closed dates stand at the start of the list
pub closed_part : (o : Answer Asked) (old list : List ℕ) (a : Asked) (n : ℕ) → o ≡ given a → list ≡ closed_dates_after o old → length a.closed ≡ n → take (n - 0) (drop 0 list) ≡ a.closed
unfolding closed_dates_after over
closed_part (given b) old list a n e l c =
    let k : b ≡ a = one_given _ b a refl e in
    let m : n - 0 ≡ n = omega arith in
    rw (m, l) (take_at b.closed _ n (ap (λ (x : Asked). length x.closed) k ∙ c) ∙ ap (λ (x : Asked). x.closed) k)
closed_part (refused m) old list a n e l c = let z : ◌≡◌ {A = ℕ} 0 1 = cc in let bad : ⊥ = omega arith in absurd bad
