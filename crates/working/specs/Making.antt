-- What generating needs of the input checks, and what it answers.
-- Assumes nothing.
use Rattle.std.specs.Prelude.{ℕ, ◌+◌, ◌-◌, ◌≤◌, ◌≡◌, refl, true, false, List, ◌++◌, reverse, nat_abs, length, take, drop, Result}
use Rattle.std.proofs.Common.{arith, sym, ap, ◌∙◌, length-drop, length-append, take_all, take_at, take-add, take-take, drop_at, length-take-le}
use Rattle.std.proofs.lemmas.List.{reverse-append, reverse-reverse, drop-append-le}
use Rattle.refusal.specs.declared.Refusal.{Refusal}
use Rattle.refusal.specs.Answer.{Answer, given, answered}
use Rattle.calendar.specs.Open.{closed_ok}
use Rattle.calendar.specs.Calendar.{tenor_ok}
use Rattle.calendar.specs.Adjust.{adjusted}
use Rattle.steps.specs.declared.Request.{Request}
use Rattle.steps.specs.Generate.{Made, made_back}
use Rattle.steps.specs.Finish.{each}
use Rattle.steps.specs.Inner.Sure.{Surely, unsure, none_sure}
use Rattle.steps.specs.Laws.Grows.{Grows}
use Rattle.working.specs.Step.{Gives, Step, gives, gives_less}
use Rattle.working.specs.Part.{Work, Part, Placed, held, last_put}
use Rattle.working.specs.Held.{put_length}
use Rattle.working.specs.Paying.{Paid, PaidSo}
use Rattle.working.specs.declared.Piece.{Piece}

-- what the input checks have shown that generating rests on
pub record Checked (q : Request) (closed : List ℕ) : Type 0 where
  pub calendar : closed_ok closed ≡ true
  pub tenor : tenor_ok (nat_abs q.tenor.length) q.tenor.unit ≡ true

-- nothing is there yet
pub record Blank (q : Request) (closed : List ℕ) (room : ℕ) (w : Work) (paid : List ℕ) : Type 0 where
  pub checked : Checked q closed
  pub part : Part room 0 w
  pub paid_size : length paid ≡ 4096

-- n dates from a place on, and the flags between them from a place of their own on
unfoldable pub piece : Work → Piece → Made
piece w p =
    record { dates = take p.n (drop p.from w.days); flags = take (p.n - 1) (drop p.marked w.marks); tries = p.tries; seed = p.seed }

pub record Lies (room : ℕ) (p : Piece) : Type 0 where
  pub some : 1 ≤ p.n
  pub fits : p.n ≤ room
  pub dates_end : p.from + p.n ≤ 4096
  pub flags_end : p.marked + (p.n - 1) ≤ 4096

-- the known dates of a piece have their adjusted dates beside them
pub record Pays (A : ℕ → Answer ℕ) (w : Work) (paid : List ℕ) (p : Piece) : Type 0 where
  pub size : length paid ≡ 4096
  pub so : each A (take (p.beyond - p.known) (drop p.known (take p.n (drop p.from w.days)))) ≡ given (take (p.beyond - p.known) (drop p.known (take p.n (drop p.from paid))))

-- it lies within the lists, and what it says is so: of the paid dates by the convention, of a day by that of the last date
pub record Laid (q : Request) (closed : List ℕ) (room : ℕ) (w : Work) (paid : List ℕ) (p : Piece) : Type 0 where
  pub lies : Lies room p
  pub pays : Pays (adjusted q.mask closed q.convention) w paid p
  pub sure : Surely (adjusted q.mask closed q.terminal) p.last

abbrev pub Generates : (q : Request) (closed : List ℕ) (room : ℕ) (o : Answer Made) (r : Result Piece Refusal) (w : Work) (paid : List ℕ) → Type 0
Generates q closed room o r w paid = Gives (piece w) (Laid q closed room w paid) o (answered r)

-- the promise of what is generated under a premise
abbrev pub Makes : (Premise : Type 0) (q : Request) (closed : List ℕ) (room : ℕ) (o : Answer Made) (r : Result Piece Refusal) (w : Work) (paid : List ℕ) → Type 0
Makes Premise q closed room o r w paid = Step Premise (piece w) (Laid q closed room w paid) o (answered r)

-- what stands by itself, with none paid and nothing known of the last
pub record Unpaid (room : ℕ) (w : Work) (p : Piece) : Type 0 where
  pub lies : Lies room p
  pub none : p.known ≡ p.beyond
  pub last : p.last.paid ≡ 0

abbrev pub Zeroed : (room : ℕ) (o : Answer Made) (r : Result Piece Refusal) (w : Work) → Type 0
Zeroed room o r w = Gives (piece w) (Unpaid room w) o (answered r)

-- n dates at the far end of the working lists, of which those up to a place are paid
abbrev pub at_end : (n from beyond tries seed : ℕ) → Piece
at_end n from beyond tries seed =
    record { from = from; marked = from; n = n; known = 0; beyond = beyond; tries = tries; seed = seed; last = unsure }

-- what fills the working lists from the far end on
pub back_made : {room n : ℕ} {w : Work} {Keeps : Piece → Type 0} (tries seed from beyond : ℕ) → Placed room n w → from ≡ 4096 - n → ((p : Piece) → p ≡ at_end n from beyond tries seed → Lies room p → Keeps p) → Gives (piece w) Keeps (given (made_back tries seed (held true n w))) (given (at_end n from beyond tries seed))
unfolding piece held last_put
back_made {n = n} {w = w} tries seed from beyond p at keeps =
    let t = p.part in
    let l : length (drop (4096 - n) w.days) ≡ n = put_length true w.days n t.work_size (omega (arith, t)) in
    let d : take n (drop (4096 - n) w.days) ≡ drop (4096 - n) w.days = take_all n (drop (4096 - n) w.days) (omega arith) in
    gives (at_end n from beyond tries seed) (rw (at, d, l) refl)
    (keeps _ refl (record { some = omega (arith, p); fits = t.fits; dates_end = omega (arith, t, at); flags_end = omega (arith, t, at) }))

-- of a backward build those from the start on are paid
pub back_laid : (q : Request) (closed : List ℕ) {room n start : ℕ} {w : Work} {paid : List ℕ} (tries seed from beyond : ℕ) → Placed room n w → Paid (adjusted q.mask closed q.convention) true start n w.days paid → from ≡ 4096 - n → beyond ≡ n - start → Gives (piece w) (Laid q closed room w paid) (given (made_back tries seed (held true n w))) (given (at_end n from beyond tries seed))
unfolding PaidSo last_put
back_laid q closed {n = n} {start = start} {w = w} {paid = paid} tries seed from beyond p r at b =
    let t = p.part in
    let size = r.size in
    let x : length (drop (4096 - n) w.days) ≡ n = put_length true w.days n t.work_size (omega (arith, t)) in
    let y : length (drop (4096 - n) paid) ≡ n = put_length true paid n size (omega (arith, t)) in
    let dates : take n (drop (4096 - n) w.days) ≡ drop (4096 - n) w.days = take_all n (drop (4096 - n) w.days) (omega arith) in
    let pays : take n (drop (4096 - n) paid) ≡ drop (4096 - n) paid = take_all n (drop (4096 - n) paid) (omega arith) in
    let long : beyond - 0 ≡ n - start = omega (arith, b) in
    back_made tries seed from beyond p at (λ c e l. record { lies = l; pays = record { size = size; so = rw (e, long, at, dates, pays) r.so }; sure = rw e (none_sure _) })

-- the same part of a list, cut from either end
part_front : (l : List ℕ) (a b : ℕ) → a ≤ b → b ≤ length l → take (b - a) (drop a l) ≡ drop a (take b l)
part_front l a b o h =
    let e : b ≡ a + (b - a) = omega arith in
    let t : take b l ≡ take a l ++ take (b - a) (drop a l) = ap (λ (k : ℕ). take k l) e ∙ take-add a (b - a) l in
    sym (ap (drop a) t ∙ drop_at (take a l) (take (b - a) (drop a l)) a (length-take-le a l (omega arith)))

-- of any other, while dates are put behind them
pub forth_pays : (A : ℕ → Answer ℕ) {start m n : ℕ} (w w' : Work) (paid : List ℕ) → Paid A false start m w.days paid → length w.days ≡ 4096 → length w'.days ≡ 4096 → m ≤ 4096 → n ≤ 4096 → Grows (held false m w).dates (held false n w').dates → (p : Piece) → p.from ≡ 0 → p.n ≡ n → p.known ≡ start → p.beyond ≡ m → Pays A w' paid p
unfolding held last_put PaidSo
forth_pays A {start} {m} {n} w w' paid r s s' few most g p at count known beyond =
    let size = r.size in
    let order = r.order in
    let x : length (take m w.days) ≡ m = length-take-le m w.days (omega arith) in
    let whole : take n w'.days ≡ take m w.days ++ reverse g.added =
    sym (reverse-reverse (take n w'.days)) ∙ ap reverse g.so ∙ reverse-append g.added (reverse (take m w.days)) ∙ ap (λ (k : List ℕ). k ++ reverse g.added) (reverse-reverse (take m w.days)) in
    let t = length-take-le n w'.days (omega arith) in
    let l = ap length whole ∙ length-append (take m w.days) (reverse g.added) in
    let k : length (drop start (take m w.days)) ≡ m - start = length-drop start (take m w.days) ∙ rw x refl in
    let dates : take (m - start) (drop start (take n w'.days)) ≡ drop start (take m w.days) =
    ap (λ (l : List ℕ). take (m - start) (drop start l)) whole ∙ ap (take (m - start)) (drop-append-le start (take m w.days) (reverse g.added) (omega arith)) ∙ take_at (drop start (take m w.days)) (reverse g.added) (m - start) k in
    let u = length-take-le n paid (omega arith) in
    let pays : take (m - start) (drop start (take n paid)) ≡ drop start (take m paid) =
    part_front (take n paid) start m order (omega (arith, u, t, l, x)) ∙ ap (drop start) (take-take m n paid (omega (arith, t, l, x))) in
    record { size = size; so = rw (at, count, known, beyond, dates, pays) r.so }

pub unpaid_laid : (q : Request) (closed : List ℕ) {room : ℕ} {o : Answer Made} (w : Work) (paid : List ℕ) {r : Answer Piece} → length paid ≡ 4096 → Gives (piece w) (Unpaid room w) o r → Gives (piece w) (Laid q closed room w paid) o r
unfolding each
unpaid_laid q closed w paid size g =
    gives_less (λ c u. let z : c.beyond - c.known ≡ 0 = omega (arith, u.none) in record { lies = u.lies; pays = record { size = size; so = rw z refl }; sure = record { so = λ h. absurd (h u.last) } }) g

-- what fills the lists from the far end on by itself
pub back_unpaid : {room n : ℕ} {w : Work} (tries seed : ℕ) → Placed room n w → Gives (piece w) (Unpaid room w) (given (made_back tries seed (held true n w))) (given (at_end n (4096 - n) 0 tries seed))
back_unpaid {n = n} tries seed p =
    back_made tries seed (4096 - n) 0 p refl (λ c e l. record { lies = l; none = rw e refl; last = rw e refl })
