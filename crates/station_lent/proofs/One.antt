-- One result: two answers that meet a contract of the station's records, with what they leave in everything lent, are
-- equal. Assumes nothing.
use Prim.Native.Nat.{ℕ}
use mathlib.Core.Path.{◌≡◌, sym, ap, ◌∙◌}
use mathlib.Core.List.{List, []}
use Rattle.refusal.specs.declared.Refusal.{Refusal}
use Rattle.laid.specs.Laid.{Lays}
use Rattle.state.specs.declared.Core.{Core}
use Rattle.state.specs.declared.Kept.{Kept}
use Rattle.state.specs.Told.{Heard, heard_by}
use Rattle.state.specs.declared.Heard.{Heard as GivenHeard}
use Rattle.std.specs.Prelude.{Option, Result, Ok, Err}
use Rattle.state.specs.declared.Indication.{Indication}
use Rattle.state.specs.declared.Moved.{Moved}
use Rattle.state.specs.declared.Spoken.{Spoken}
use Rattle.state.specs.declared.Outcome.{Outcome}
use Rattle.state.specs.World.{Rows, Site, World, Event, Done, Called, rows}
use Rattle.state.specs.Told.{Stands, stands, Sends, Does, Rechecks, Closes, Says}
use Rattle.state.proofs.Results.{heard-same}
use Rattle.hearing.specs.Hears.{Hears}
use Rattle.station_lent.specs.Acts.{Acts}

-- ---- what the code answers is told apart by its answer as a record: a refusal by its number
pub one-heard : (c : Core) (k : Kept) (a b : Result GivenHeard Refusal) → heard_by c k a ≡ heard_by c k b → a ≡ b
one-heard c k a b e = heard-same c k a b e

given-in : GivenHeard → Result GivenHeard Refusal → GivenHeard
given-in d (Ok a) = a
given-in d (Err r) = d

same-given : (a b : GivenHeard) → ◌≡◌ {A = Result GivenHeard Refusal} (Ok a) (Ok b) → a ≡ b
unfolding given-in
same-given a b e = ap (given-in a) e

-- ---- sent and slot expired: the answer, the masters, the marks, both rows with their data, and the output
pub record OneResult (r q : Heard) (masters masters' marks marks' : List ℕ) (high high' low low' : Rows)
    (out out' : List ℕ) : Type 0 where
  pub answer : r ≡ q
  pub masters-are : masters ≡ masters'
  pub marks-are : marks ≡ marks'
  pub high_is : high ≡ high'
  pub low-is : low ≡ low'
  pub out-is : out ≡ out'

one_of : {r q : Heard} {m m' t k k' p o : List ℕ} {h h' l l' : Rows} {x x' : List ℕ}
    → stands r m t k p o h l x ≡ stands q m' t k' p o h' l' x' → OneResult r q m m' k k' h h' l l' x x'
one_of e =
    record {
      answer = ap (λ (s : Stands). s.answer) e;
      masters-are = ap (λ (s : Stands). s.masters) e;
      marks-are = ap (λ (s : Stands). s.marks) e;
      high_is = ap (λ (s : Stands). s.high) e;
      low-is = ap (λ (s : Stands). s.low) e;
      out-is = ap (λ (s : Stands). s.out) e;
    }

module _ {f : World → Called} {c : Core} {k : Kept} {masters started marks : List ℕ} {high low : Rows} {out : List ℕ}
  where
    pub one-act : {r q : Heard} {m m' n n' : List ℕ} {h h' l l' : Rows} {x x' : List ℕ}
        → Acts f c k masters started marks high low out r m n h l x
        → Acts f c k masters started marks high low out q m' n' h' l' x' → OneResult r q m m' n n' h h' l l' x x'
    one-act a b = one_of (a.told [] [] ∙ sym (b.told [] []))

    -- the same of the `Result`s that the code answers
    pub one-act-result : {r q : Result GivenHeard Refusal} {m m' n n' : List ℕ} {h h' l l' : Rows} {x x' : List ℕ}
        → Acts f c k masters started marks high low out (heard_by c k r) m n h l x
        → Acts f c k masters started marks high low out (heard_by c k q) m' n' h' l' x'
        → (r ≡ q) × (m ≡ m') × (n ≡ n') × (h ≡ h') × (l ≡ l') × (x ≡ x')
    one-act-result {r = r} {q = q} a b =
        let w = one-act a b in
        (one-heard c k r q w.answer, w.masters-are, w.marks-are, w.high_is, w.low-is, w.out-is)

-- ---- a frame by its phase: the same, with the octets of the remembered reply
module _ {f : World → Called} {c : Core} {k : Kept} {masters marks points octets : List ℕ} {high low : Rows}
    {out : List ℕ} where
  pub one-hearing : {r q : Heard} {m m' n n' o o' : List ℕ} {h h' l l' : Rows} {x x' : List ℕ}
      → Hears f c k masters marks points octets high low out r m n o h l x
      → Hears f c k masters marks points octets high low out q m' n' o' h' l' x'
      → (o ≡ o') × (r ≡ q) × (m ≡ m') × (n ≡ n') × (h ≡ h') × (l ≡ l') × (x ≡ x')
  one-hearing a b =
      let e = a.told [] ∙ sym (b.told []) in (
        ap (λ (s : Stands). s.octets) e,
        ap (λ (s : Stands). s.answer) e,
        ap (λ (s : Stands). s.masters) e,
        ap (λ (s : Stands). s.marks) e,
        ap (λ (s : Stands). s.high) e,
        ap (λ (s : Stands). s.low) e,
        ap (λ (s : Stands). s.out) e,
      )

  -- the same of what the code answers, which is not refused there
  pub one-hearing-result : {r q : GivenHeard} {m m' n n' o o' : List ℕ} {h h' l l' : Rows} {x x' : List ℕ}
      → Hears f c k masters marks points octets high low out (heard_by c k (Ok r)) m n o h l x
      → Hears f c k masters marks points octets high low out (heard_by c k (Ok q)) m' n' o' h' l' x'
      → (r ≡ q) × (m ≡ m') × (n ≡ n') × (o ≡ o') × (h ≡ h') × (l ≡ l') × (x ≡ x')
  one-hearing-result {r = r} {q = q} a b =
      let w = one-hearing a b in
      (same-given r q (one-heard c k (Ok r) (Ok q) w.1), w.2, w.3, w.0, w.4, w.5, w.6)

-- ---- the inner functions: an act on the site, and an answer
pub one-laying : {l u m m' : List ℕ} {at n r q : ℕ} → Lays l at u n r m → Lays l at u n q m' → (r ≡ q) × (m ≡ m')
one-laying a b = (a.place ∙ sym b.place, a.left ∙ sym b.left)

abbrev moved : Core → ℕ → ℕ → Moved
moved c n t = record { core = c; length = n; wait = record { 0 = t } }

moved_same : (r q : Moved) → r.core ≡ q.core → r.length ≡ q.length → r.wait.0 ≡ q.wait.0 → r ≡ q
moved_same r q e f g =
    ap (λ (c : Core). moved c r.length r.wait.0) e
    ∙ ap (λ (n : ℕ). moved q.core n r.wait.0) f
    ∙ ap (λ (t : ℕ). moved q.core q.length t) g

abbrev spoken : Kept → ℕ → ℕ → Option Indication → Spoken
spoken k n t i = record { kept = k; length = n; wait = record { 0 = t }; indication = i }

spoken-same : (r q : Spoken) → r.kept ≡ q.kept → r.length ≡ q.length → r.wait.0 ≡ q.wait.0
    → r.indication ≡ q.indication → r ≡ q
spoken-same r q e f g h =
    ap (λ (k : Kept). spoken k r.length r.wait.0 r.indication) e
    ∙ ap (λ (n : ℕ). spoken q.kept n r.wait.0 r.indication) f
    ∙ ap (λ (t : ℕ). spoken q.kept q.length t r.indication) g
    ∙ ap (λ (i : Option Indication). spoken q.kept q.length q.wait.0 i) h

pub one-sends : {c : Core} {e : List Event} {out : List ℕ} {r q : Moved} {x x' : List ℕ} → Sends c e out r x
    → Sends c e out q x' → (r ≡ q) × (x ≡ x')
one-sends {r = r} {q = q} a b =
    let l = one-laying a.laid b.laid in
    (moved_same r q (a.core ∙ sym b.core) l.0 (a.wait ∙ sym b.wait), l.1)

pub one-doing : {d : Done} {out : List ℕ} {r q : Moved} {m m' n n' : List ℕ} {h h' l l' : Rows} {x x' : List ℕ}
    → Does d out r m n h l x → Does d out q m' n' h' l' x'
    → (r ≡ q) × (m ≡ m') × (n ≡ n') × (h ≡ h') × (l ≡ l') × (x ≡ x')
one-doing {r = r} {q = q} a b =
    let e = a.site ∙ sym b.site in (
      moved_same r q (ap (λ (s : Site). s.core) e) (one-laying a.laid b.laid).0 (a.wait ∙ sym b.wait),
      ap (λ (s : Site). s.masters) e,
      ap (λ (s : Site). s.marks) e,
      ap (λ (s : Site). s.high) e,
      ap (λ (s : Site). s.low) e,
      (one-laying a.laid b.laid).1,
    )

pub one-saying : {k : Kept} {e : List Event} {out : List ℕ} {r q : Spoken} {x x' : List ℕ} → Says k e out r x
    → Says k e out q x' → (r ≡ q) × (x ≡ x')
one-saying {r = r} {q = q} a b = (
  spoken-same r q (a.kept ∙ sym b.kept) (one-laying a.laid b.laid).0 (a.wait ∙ sym b.wait)
      (a.indication ∙ sym b.indication),
  (one-laying a.laid b.laid).1,
)

-- slot expiry while the pass is checked, which leaves the marks and the rows alone; and a confirmation, which leaves the
-- masters alone
pub one-recheck : {c : Core} {masters out : List ℕ} {r q : Moved} {m m' x x' : List ℕ} → Rechecks c masters out r m x
    → Rechecks c masters out q m' x' → (r ≡ q) × (m ≡ m') × (x ≡ x')
one-recheck a b =
    let d = one-doing (a.does [] (rows [] []) (rows [] [])) (b.does [] (rows [] []) (rows [] [])) in
    (d.0, d.1, d.5)

pub one-closing : {o : Outcome} {x : List ℕ} {c : Core} {marks : List ℕ} {high low : Rows} {d d' : Core}
    {n n' : List ℕ} {h h' l l' : Rows} → Closes o x c marks high low d n h l → Closes o x c marks high low d' n' h' l'
    → (d ≡ d') × (n ≡ n') × (h ≡ h') × (l ≡ l')
one-closing a b =
    let e = a.site [] ∙ sym (b.site []) in (
      ap (λ (s : Site). s.core) e,
      ap (λ (s : Site). s.marks) e,
      ap (λ (s : Site). s.high) e,
      ap (λ (s : Site). s.low) e,
    )
