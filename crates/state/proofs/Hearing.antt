-- What is known of a frame that was read: a token's address, a request's sender, a reply's status and data; and that an
-- answer leaves the memory in order. Assumes nothing.
use Prim.Native.Nat.{ℕ, ◌+◌, ◌≤◌, ◌<◌}
use mathlib.Core.Bool.{Bool, true, false}
use mathlib.Core.Path.{◌≡◌, refl}
use mathlib.Core.List.{List, []}
use native.Mathlib.Omega.{arith}
use lib.ListN.{length, length-append}
use Rattle.choice.specs.Choice.{pick, less, same}
use Rattle.choice.proofs.Rules.{passed, unrefused, false-less, is_said}
use Rattle.control.specs.declared.Code.{Code}
use Rattle.control.specs.declared.Code.TheVariants.{Ok, Ue, Rr, Rs, Dl, Nr, Dh, Rdl, Rdh}
use Rattle.control.specs.declared.Control.{Control}
use Rattle.control.specs.declared.Control.TheVariants.{Request, Reply}
use Rattle.control.specs.Control.{code_number}
use Rattle.frame.specs.declared.Address.{Address}
use Rattle.frame.specs.declared.Head.{Head}
use Rattle.frame.specs.declared.Part.{Part}
use Rattle.frame.specs.declared.Fields.{Fields}
use Rattle.frame.specs.declared.Fields.TheVariants.{Token, Short, Frame}
use Rattle.frame.specs.Reading.{Read}
use Rattle.frame.specs.Format.{unit, body, closing, sd1, sd2, framed, octets, unwritable, unwritable_token}
use Rattle.frame.specs.Reading.{read, shown}
use Rattle.frame.proofs.Lengths.{length-extension, length-unit}
use Rattle.frame_laws.proofs.Body.{writable}
use Rattle.frame_laws.proofs.Accepted.{accepted, accepted-carried}
use Rattle.frame_laws.proofs.Theorems.{read-writable}
use Rattle.request.specs.declared.Record.{Record}
use Rattle.request.specs.Record.{NA, named}
use Rattle.queue.specs.Queue.{AREA}
use Rattle.state.specs.declared.Memory.{Memory}
use Rattle.state.specs.declared.New.{New}
use Rattle.state.specs.declared.Given.{Given}
use Rattle.state.specs.declared.Given.TheVariants.{Acknowledged, Coded}
use Rattle.state.specs.declared.Responder.{Responder}
use Rattle.state.specs.declared.Asks.{Asks}
use Rattle.state.specs.declared.Asks.TheVariants.{Sda, Srd, Sdn, Status, Never}
use Rattle.state.specs.declared.Verdict.{Verdict}
use Rattle.state.specs.declared.Verdict.TheVariants.{Plausible, Vain, Foreign}
use Rattle.state.specs.World.{World, Event}
use Rattle.state.specs.Request.{judged_by, judged}
use Rattle.state.specs.Answering as A
use Rattle.state.specs.Answering.{UPDATE, Answered, answered, reply_head, reply_octets, remembered, answer_new}
use Rattle.state.specs.Answering.{answer_counted, answer_as, answer_to, answer}
use Rattle.state.specs.Refusals.{cramped, refusal_in, refusal}
use Rattle.state.proofs.Cases.{by}

-- the answering memory: whose request was answered, and how long the reply is
pub record Memorable (m : Memory) : Type 0 where
  pub source : m.kept.source.0 ≤ 127
  pub reply : m.kept.length ≤ 255

-- what a plausible reply confirms a request with: a named status, and data that fit its place
unfoldable pub status_by : Verdict → ℕ
status_by (Plausible n) = n
status_by Vain = 0
status_by Foreign = 0

pub record Lawful (x : List ℕ) (v : Verdict) : Type 0 where
  pub status : named (status_by v) ≡ true
  pub low : status_by v < NA
  pub short : length x ≤ AREA

-- ---- the fields of a frame that was read
pub read-token : (s : List ℕ) (d a : Address) (p : Part) → read s ≡ Read (Token d a) p → a.0 ≤ 126
unfolding unwritable unwritable_token
read-token s d a p e =
    let b = passed _ 8 _ (omega arith) (read-writable s (Token d a) p e) in
    let c = passed _ 8 _ (omega arith) b.1 in
    false-less _ _ c.0

pub read-source : (s : List ℕ) (h : Head) (p : Part) → read s ≡ Read (Frame h) p → h.source.0 ≤ 126
unfolding unwritable
read-source s h p e =
    let w = writable h _ (read-writable s (Frame h) p e) in
    omega (arith, w.source)

-- its data fit a place
pub read-short : (s : List ℕ) (f : Fields) (p : Part) → read s ≡ Read f p → length (shown s p) ≤ AREA
unfolding unwritable
read-short s (Token d a) p e = rw (← accepted-carried (accepted s (Token d a) p e)) (omega arith)
read-short s Short p e = rw (← accepted-carried (accepted s Short p e)) (omega arith)
read-short s (Frame h) p e =
    let w = writable h _ (read-writable s (Frame h) p e) in
    omega (arith, w.most, length-unit h (shown s p))

-- ---- the status of a plausible reply
named-code : (c : Code) → named (code_number c) ≡ true
unfolding named pick less same
named-code Ok = refl
named-code Ue = refl
named-code Rr = refl
named-code Rs = refl
named-code Dl = refl
named-code Nr = refl
named-code Dh = refl
named-code Rdl = refl
named-code Rdh = refl

named-judged_by : (ts : ℕ) (r : Record) (h : Head) (n : ℕ) (c : Control) → named (status_by (judged_by ts r h n c)) ≡ true
unfolding judged_by status_by
named-judged_by ts r h n (Request s b v) = named-code Ok
named-judged_by ts r h n (Reply k c) =
    by (λ (v : Verdict). named (status_by v) ≡ true) _ _ _
    (λ e. by (λ (v : Verdict). named (status_by v) ≡ true) _ _ _ (λ e. named-code c) (λ e. named-code Ok))
    (λ e. named-code Ok)

named-judged : (ts : ℕ) (r : Record) (f : Fields) (n : ℕ) → named (status_by (judged ts r f n)) ≡ true
unfolding judged status_by
named-judged ts r (Token d s) n = named-code Ok
named-judged ts r Short n = by (λ (m : ℕ). named m ≡ true) _ _ _ (λ e. named-code Ok) (λ e. named-code Nr)
named-judged ts r (Frame h) n = named-judged_by ts r h n h.control

-- ---- the status of a plausible reply is its code, never NA
low-code : (c : Code) → code_number c < NA
low-code Ok = omega arith
low-code Ue = omega arith
low-code Rr = omega arith
low-code Rs = omega arith
low-code Dl = omega arith
low-code Nr = omega arith
low-code Dh = omega arith
low-code Rdl = omega arith
low-code Rdh = omega arith

low-judged_by : (ts : ℕ) (r : Record) (h : Head) (n : ℕ) (c : Control) → status_by (judged_by ts r h n c) < NA
unfolding judged_by status_by
low-judged_by ts r h n (Request s b v) = low-code Ok
low-judged_by ts r h n (Reply k c) =
    by (λ (v : Verdict). status_by v < NA) _ _ _
    (λ e. by (λ (v : Verdict). status_by v < NA) _ _ _ (λ e. low-code c) (λ e. low-code Ok))
    (λ e. low-code Ok)

pub low-judged : (ts : ℕ) (r : Record) (f : Fields) (n : ℕ) → status_by (judged ts r f n) < NA
unfolding judged status_by
low-judged ts r (Token d s) n = low-code Ok
low-judged ts r Short n = by (λ (m : ℕ). m < NA) _ _ _ (λ e. low-code Ok) (λ e. low-code Nr)
low-judged ts r (Frame h) n = low-judged_by ts r h n h.control

pub lawful-judged : (s : List ℕ) (f : Fields) (p : Part) (ts : ℕ) (r : Record) → read s ≡ Read f p
    → Lawful (shown s p) (judged ts r f p.count)
lawful-judged s f p ts r e =
    record { status = named-judged ts r f p.count; low = low-judged ts r f p.count; short = read-short s f p e }

-- ---- how long a reply is
length-framed : (b : List ℕ) → length (framed b) ≤ length b + 6
unfolding framed sd1 sd2 closing
length-framed b =
    by (λ (l : List ℕ). length l ≤ length b + 6) _ _ _ (λ e. simp length-append (omega arith))
    (λ e. simp length-append (omega arith))

length-body : (h : Head) (x : List ℕ) → length (body h x) ≤ length x + 5
unfolding body unit
length-body h x = simp length-append (omega (arith, length-extension h.to, length-extension h.from))

carried-short : (b : Bool) (x : List ℕ) → length x ≤ UPDATE → length (pick b x []) ≤ UPDATE
carried-short b x h = by (λ (l : List ℕ). length l ≤ UPDATE) _ _ _ (λ e. h) (λ e. omega arith)

reply-short : (r : Responder) (h : Head) (g : Given) (x : List ℕ) → length x ≤ UPDATE
    → length (reply_octets r h g x) ≤ 255
unfolding reply_octets octets
reply-short r h Acknowledged x l = omega arith
reply-short r h (Coded k) x l =
    let a = carried-short (A.carries k) x l in
    let b = length-body (reply_head r h k) (pick (A.carries k) x []) in
    let c = length-framed (body (reply_head r h k) (pick (A.carries k) x [])) in
    omega arith

pub shown-short : (high low : List ℕ) → length high ≤ UPDATE → length low ≤ UPDATE → length (A.shown high low) ≤ UPDATE
unfolding A.shown
shown-short high low h l = by (λ (x : List ℕ). length x ≤ UPDATE) _ _ _ (λ e. h) (λ e. l)

-- ---- the memory after an answer
pub record Minds (a : Answered) : Type 0 where
  pub memory : Memorable a.memory

minds-answered : (m : Memory) (e : List Event) → Memorable m → Minds (answered m e)
unfolding answered
minds-answered m e z = record { memory = z }

minds-remembered : (m : Memory) (a : Address) (fcb fcv : Bool) (x : List ℕ) → a.0 ≤ 126 → length x ≤ 255
    → Memorable m → Memorable (remembered m a fcb fcv x)
unfolding remembered
minds-remembered m a fcb fcv x h l z = by Memorable _ _ _ (λ e. record { source = omega arith; reply = l }) (λ e. z)

module _ (r : Responder) (points : List ℕ) (m : Memory) (room : Bool) (high low : List ℕ) (h : Head) (d : Part)
    (z : Memorable m) (s : h.source.0 ≤ 126) (u : length high ≤ UPDATE) (l : length low ≤ UPDATE) where
  minds-new : (n : New) (fcb fcv : Bool) → Minds (answer_new r m n fcb fcv (A.shown high low) h d)
  unfolding answer_new
  minds-new n fcb fcv =
      minds-answered _ _
      (minds-remembered m h.source fcb fcv _ s (reply-short _ h n.given _ (shown-short high low u l)) z)

  minds-counted : (is_sda fcb fcv : Bool) → Minds (answer_counted r points m is_sda fcb fcv room high low h d)
  unfolding answer_counted
  minds-counted is_sda fcb fcv =
      by Minds _ _ _ (λ e. minds-answered m _ z)
      (λ e. by Minds _ _ _ (λ e. minds-answered m _ z) (λ e. minds-new _ fcb fcv))

  minds-as : (a : Asks) (fcb fcv : Bool) → Minds (answer_as a r points m fcb fcv room high low h d)
  unfolding answer_as
  minds-as Sda fcb fcv = minds-counted true fcb fcv
  minds-as Srd fcb fcv = minds-counted false fcb fcv
  minds-as Sdn fcb fcv = minds-answered m _ z
  minds-as Status fcb fcv = minds-answered m _ z
  minds-as Never fcb fcv = minds-answered m _ z

  minds-to : (k : Control) → Minds (answer_to k r points m room high low h d)
  unfolding answer_to
  minds-to (Request a fcb fcv) = minds-as _ fcb fcv
  minds-to (Reply k code) = minds-answered m _ z

  pub minds-answer : Minds (answer r points m room high low h d)
  unfolding answer
  minds-answer = by Minds _ _ _ (λ e. minds-to _) (λ e. by Minds _ _ _ (λ e. minds-to _) (λ e. minds-answered m _ z))

-- ---- an update that is not refused is at most 244 octets
pub short-updates : (out high low : ℕ) (w : World) → refusal out high low w ≡ 0 → (high ≤ UPDATE) × (low ≤ UPDATE)
unfolding refusal refusal_in cramped
short-updates out high low w e =
    let a = passed _ 21 _ (omega arith) e in
    let b = passed _ 21 _ (omega arith) a.1 in
    let c = passed _ 22 _ (omega arith) b.1 in
    let d = unrefused _ _ (is_said c.0) in
    let f = unrefused _ _ d.1 in
    let g = unrefused _ _ f.1 in
    (false-less _ _ f.0, false-less _ _ g.0)
