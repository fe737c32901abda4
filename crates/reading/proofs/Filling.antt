-- A read in place: what stands at the start of the room grows by what was read behind it.
-- Assumes nothing.
use Rattle.std.proofs.Common.{◌≡◌, ℕ, ◌+◌, ◌≤◌, List, ◌++◌, length, take, drop, sym, ap, subst, ◌∙◌, arith, drop_at, length-take-le}
use Rattle.std.proofs.Math.Seq.{take-add}
use Rattle.std.proofs.lemmas.List.{take-append-le}
use Rattle.std.proofs.lemmas.Slice.{take-put_mid_below}
use borrow.Rule.Slice.PartMut.{put_mid, post_of}
use Rattle.std.specs.declared.option.Option.{Option}
use Rattle.std.specs.Io.KnownBytes.{Consumes}
use Rattle.std.proofs.KnownBytes.{Consumes-trans}

pub read_more : (a b c : Option (List ℕ)) (room part : List ℕ) (at k n : ℕ) → at ≤ length room → n ≤ length part → Consumes a b (take at room) → Consumes b c (take n part) → Consumes a c (take (at + n) (put_mid at k room part))
read_more a b c room part at k n within few before read =
    let front = take-put_mid_below at k room part at (omega arith) within in
    let behind : drop at (put_mid at k room part) ≡ part ++ post_of at k room = drop_at (take at room) (part ++ post_of at k room) at (length-take-le at room within) in
    let rest : take n (drop at (put_mid at k room part)) ≡ take n part = ap (take n) behind ∙ take-append-le n part (post_of at k room) few in
    let whole = take-add at n (put_mid at k room part) ∙ (λ i. front i ++ rest i) in
    subst (Consumes a c) (sym whole) (Consumes-trans a b c (take at room) (take n part) before read)
