use Rattle.std.proofs.Common.{ℕ, ◌+◌, ap, arith, sym, ◌∙◌}
use Rattle.date.specs.Date.{step}
use Rattle.desk.proofs.Searching.{book_small, book_span, cut_day, cut_refused, way_beyond, way_in, way_on, way_small, way_some, way_span, way_year, year_in, year_small, year_some}
use Rattle.desk.proofs.adjusting.first_over.Goals as goal

pub overflow_add-left : goal.overflow_add-left
overflow_add-left c = let b = c.requires in let f = c.fields_of-year.ensures in let l = c.end_of-end.ensures (year_in _ _ f b) in record { fits = omega (arith, book_small _ b, way_small _ _ f b _ _ l) }

pub first_in-requires : goal.first_in-requires
first_in-requires c = let b = c.requires in let f = c.fields_of-year.ensures in let l = c.end_of-end.ensures (year_in _ _ f b) in (year_in _ _ f b, book_span _ b, omega arith, way_in _ _ f b _ _ l 31 (omega arith))

pub first_in-requires-2 : goal.first_in-requires-2
first_in-requires-2 c = let b = c.requires in let f = c.fields_of-year.ensures in let l = c.end_of-end.ensures (year_in _ _ f b) in (year_in _ _ f b, book_span _ b, omega (arith, c.if-left-ge-TRIES.false), way_in _ _ f b _ _ l _ (omega arith))

pub beside-on-requires : goal.beside-on-requires
beside-on-requires c = let b = c.requires in let f = c.fields_of-year.ensures in let l = c.end_of-end.ensures (year_in _ _ f b) in (way_some _ _ f b _ _ l, omega (arith, way_small _ _ f b _ _ l))

pub beside-requires : goal.beside-requires
beside-requires c = let b = c.requires in let f = c.fields_of-year.ensures in let l = c.end_of-end.ensures (year_in _ _ f b) in (year_some _ _ f b, omega (arith, year_small _ _ f b))

pub first_in-requires-in-Err : goal.first_in-requires-in-Err
first_in-requires-in-Err c = let b = c.requires in let f = c.fields_of-year.ensures in let l = c.end_of-end.ensures (year_in _ _ f b) in let q = c.beside-on.ensures in let r = c.beside.ensures in (rw r (way_year _ _ f b _), rw q (way_span _ _ f b _ _ l), omega arith, rw (q, r) (way_beyond _ _ f b _ _ l _ (omega arith)))

pub returns-in-Ok : goal.returns-in-Ok
returns-in-Ok c = cut_day _ _ _ _ c.if-left-ge-TRIES.false _ c.in-Ok.ensures

pub returns-in-Err : goal.returns-in-Err
returns-in-Err c = let b = c.requires in let f = c.fields_of-year.ensures in let l = c.end_of-end.ensures (year_in _ _ f b) in cut_refused _ _ _ _ c.if-left-ge-TRIES.false _ _ _ c.in-Err.ensures (c.beside-on.ensures ∙ way_on _ _ f b _ _ l ∙ ap (λ (k : ℕ). step c.args.back c.args.day (k + 1)) (sym c.abs_diff-left.ensures)) c.first_in-in-Err.ensures
