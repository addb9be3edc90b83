-- "Today's lines stay as they are and answer as they do": a line of no more words than a start, or a submit, of the base
-- has is one exactly if it was one, with the standard TSDI, with the reference 0 and asking for the station's limit; and
-- one of more words has its pairs in their order and no word more. Assumes nothing.
use Prim.Native.Nat.{ℕ, ◌+◌, ◌≤◌}
use mathlib.Core.Bool.{Bool, true, false}
use mathlib.Core.List.{List, [], ◌∷◌}
use mathlib.Core.Logic.{◌⊎◌, inl, inr, ⊎_elim}
use mathlib.Core.Path.{◌≡◌, refl, sym, ap, ◌∙◌}
use Rattle.std.proofs.Common.{is_some}
use Rattle.std.specs.Option.{unwrap_or}
use Rattle.choice.specs.Choice.{pick, same, said}
use Rattle.choice.proofs.Rules.{pick_true, pick-false, said-true, said-false, is_said, same_true, true_same, both_true}
use Rattle.times.specs.Times.{standard}
use Rattle.typed.specs.declared.places.Pair.{Pair}
use Rattle.typed.specs.Digits.{number}
use Rattle.typed.specs.Words.{words, word, equal}
use Rattle.typed.specs.Places.{LONG, named, numbers, queue, pair}
use Rattle.typed.proofs.words.Last.{no_word}
use Rattle.typed_call.specs.Table as Table
use Rattle.typed_call.specs.Pairs.{w-tsdi, tsdi_of, start_pairs, w-ref, w-limit, ref_of, limit_of, asks_of, submit_pairs}
use Rattle.typed_call.specs.Script.{w-start, is_site, is_start, w-submit, is_request, is_submit}
use Rattle.typed_call.specs.Operands.{settings_of, request_of}

-- a start of the base: `start Tset Tqui minTSDR maxTSDR TTD TTR retry TS masters points high low` and no word more
unfoldable pub base_start : List ℕ → Bool
base_start l =
    pick (said (named l w-start Table.STARTWORDS))
    (pick (said (numbers l Table.TSET Table.LONGS LONG)) (is_site l) false) false

-- a submit of the base: `submit QUEUE SERVICE DA DSAP SSAP DATA` and no word more
unfoldable pub base_submit : List ℕ → Bool
base_submit l =
    pick (said (named l w-submit Table.SUBMITWORDS))
    (pick (said (is_some (queue (word l Table.QUEUE)))) (is_request l) false) false

-- ---- a pair where the line has no more words is left out
abbrev out : ℕ → ℕ → Pair
out k standing = record { number = number standing; behind = k }

unnamed : {w : List ℕ} (c : ℕ) (name : List ℕ) → w ≡ [] → false ≡ equal w (c ∷ name)
unfolding equal
unnamed c name e = rw e

left_out : (l : List ℕ) (k c : ℕ) (name : List ℕ) (most standing : ℕ) → words l ≤ k
    → pair l k (c ∷ name) most standing ≡ out k standing
unfolding pair
left_out l k c name most standing h = pick-false _ _ (said-false (unnamed c name (no_word l k h)) refl)

-- the first word and the count of words, in either order
turned : (a b x : Bool) → pick (said a) (pick (said b) x false) false ≡ pick (said (pick b (said a) false)) x false
unfolding pick said
turned true true x = refl
turned true false x = refl
turned false true x = refl
turned false false x = refl

-- ---- start: the line ends where it did, and TSDI is the standard one
tsdi-out : (l : List ℕ) → words l ≤ Table.STARTWORDS → tsdi_of l ≡ out Table.STARTWORDS standard.tsdi.0
unfolding tsdi_of
tsdi-out l h = left_out l Table.STARTWORDS _ _ LONG _ h

start-ends : (l : List ℕ) (n : ℕ) → tsdi_of l ≡ out Table.STARTWORDS n → start_pairs l ≡ same (words l) Table.STARTWORDS
unfolding start_pairs
start-ends l n e = rw e (pick_true _ _ (said-true refl refl))

value_out : {p : Pair} (k n : ℕ) → p ≡ out k n → unwrap_or p.number 0 ≡ n
value_out k n e = ap (λ (p : Pair). unwrap_or p.number 0) e

pub as_before : (l : List ℕ) → words l ≤ Table.STARTWORDS
    → (is_start l ≡ base_start l) × ((settings_of l).tsdi.0 ≡ standard.tsdi.0)
unfolding is_start base_start settings_of named
as_before l h =
    let e = tsdi-out l h in
    (rw (start-ends l _ e) (turned _ _ _), value_out _ _ e)

-- ---- submit: the line ends where it did, the reference is 0, and the station's limit is asked for
ref-out : (l : List ℕ) → words l ≤ Table.SUBMITWORDS → ref_of l ≡ out Table.SUBMITWORDS 0
unfolding ref_of
ref-out l h = left_out l Table.SUBMITWORDS _ _ LONG 0 h

limit-out : (l : List ℕ) → words l ≤ Table.SUBMITWORDS → limit_of l ≡ out Table.SUBMITWORDS 0
unfolding limit_of
limit-out l h = rw (ref-out l h) (left_out l Table.SUBMITWORDS _ _ _ 0 h)

submit-ends : (l : List ℕ) → words l ≤ Table.SUBMITWORDS → submit_pairs l ≡ same (words l) Table.SUBMITWORDS
unfolding submit_pairs
submit-ends l h =
    rw (ref-out l h, limit-out l h)
    (pick_true _ _ (said-true refl refl) ∙ pick_true _ _ (said-true refl refl))

pub submit-as-before : (l : List ℕ) → words l ≤ Table.SUBMITWORDS
    → (is_submit l ≡ base_submit l) × (((request_of l).reference ≡ 0) × ((request_of l).asks ≡ true))
unfolding is_submit base_submit request_of asks_of named
submit-as-before l h = (
  rw (submit-ends l h) (turned _ _ _),
  (value_out _ _ (ref-out l h), same_true (rw (ref-out l h, limit-out l h))),
)

-- ---- "A pair out of this order, named twice, unknown, or of a request that has not landed, makes the line no call"
-- the pair stands at word k
record Stands (l : List ℕ) (k : ℕ) (name : List ℕ) (p : Pair) : Type 0 where
  called : equal (word l k) name ≡ true
  ends : p.behind ≡ k + 2

stands_by : (l : List ℕ) (k : ℕ) (name : List ℕ) (most standing : ℕ) (b : Bool) → equal (word l k) name ≡ b
    → ((pair l k name most standing).behind ≡ k) ⊎ Stands l k name (pair l k name most standing)
unfolding pair
stands_by l k name most standing true e =
    inr (record { called = e; ends = ap (λ (p : Pair). p.behind) (pick_true _ _ (said-true (sym e) refl)) })
stands_by l k name most standing false e = inl (ap (λ (p : Pair). p.behind) (pick-false _ _ (said-false (sym e) refl)))

start-ends-there : (l : List ℕ) → is_start l ≡ true → words l ≡ (tsdi_of l).behind
unfolding is_start start_pairs
start-ends-there l e = true_same _ _ (both_true _ _ (is_said (both_true _ _ (both_true _ _ e).1).0)).1

tsdi-stands : (l : List ℕ) → ((tsdi_of l).behind ≡ Table.STARTWORDS) ⊎ Stands l Table.STARTWORDS w-tsdi (tsdi_of l)
unfolding tsdi_of
tsdi-stands l = stands_by l _ _ _ _ _ refl

pub one-pair : (l : List ℕ) → is_start l ≡ true
    → (words l ≡ Table.STARTWORDS)
    ⊎ ((words l ≡ Table.STARTWORDS + 2) × (equal (word l Table.STARTWORDS) w-tsdi ≡ true))
one-pair l e =
    let f = start-ends-there l e in
    ⊎_elim (λ (g : (tsdi_of l).behind ≡ Table.STARTWORDS). inl (f ∙ g))
    (λ (s : Stands l Table.STARTWORDS w-tsdi (tsdi_of l)). inr (f ∙ s.ends, s.called))
    (tsdi-stands l)

-- a submit has its seven words alone, or behind them `ref N`, `limit N`, or both in that order
pub data Pairs (l : List ℕ) : Type 0 where
  neither : words l ≡ 7 → Pairs l
  reference : words l ≡ 9 → equal (word l 7) w-ref ≡ true → Pairs l
  limit : words l ≡ 9 → equal (word l 7) w-limit ≡ true → Pairs l
  both : words l ≡ 11 → equal (word l 7) w-ref ≡ true → equal (word l 9) w-limit ≡ true → Pairs l

ends_there : (l : List ℕ) → is_submit l ≡ true → words l ≡ (limit_of l).behind
unfolding is_submit submit_pairs
ends_there l e =
    let p = is_said (both_true _ _ (both_true _ _ e).1).0 in
    true_same _ _ (both_true _ _ (both_true _ _ p).1).1

ref-stands : (l : List ℕ) → ((ref_of l).behind ≡ 7) ⊎ Stands l 7 w-ref (ref_of l)
unfolding ref_of
ref-stands l = stands_by l _ _ _ _ _ refl

limit-stands : (l : List ℕ) (k : ℕ) → (ref_of l).behind ≡ k → ((limit_of l).behind ≡ k) ⊎ Stands l k w-limit (limit_of l)
unfolding limit_of
limit-stands l k e = rw e (stands_by l k _ _ _ _ refl)

pub submit-pairs : (l : List ℕ) → is_submit l ≡ true → Pairs l
submit-pairs l e =
    let f = ends_there l e in
    ⊎_elim
    (λ (g : (ref_of l).behind ≡ 7).
    ⊎_elim (λ (h : (limit_of l).behind ≡ 7). neither (f ∙ h))
    (λ (s : Stands l 7 w-limit (limit_of l)). limit (f ∙ s.ends) s.called) (limit-stands l 7 g))
    (λ (r : Stands l 7 w-ref (ref_of l)).
    ⊎_elim (λ (h : (limit_of l).behind ≡ 9). reference (f ∙ h) r.called)
    (λ (s : Stands l 9 w-limit (limit_of l)). both (f ∙ s.ends) r.called s.called) (limit-stands l 9 r.ends))
    (ref-stands l)
