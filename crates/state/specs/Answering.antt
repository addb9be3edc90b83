-- Document 01, "Answering, Idle only, to TS or 127": by a responder, which is all that the answering side knows of its
-- station. Assumes nothing.
use Rattle.std.specs.Prelude.{ℕ, ◌≤◌, ◌≡◌, Bool, true, false, List, [], ◌∷◌, length, get_or, take}
use Rattle.choice.specs.Choice.{pick, less, same, said}
use Rattle.control.specs.declared.Service.{Service}
use Rattle.control.specs.declared.Service.TheVariants.{SdaLow, SdnLow, SdaHigh, SdnHigh, Status, SrdLow, SrdHigh}
use Rattle.control.specs.declared.Service.TheVariants.{Ident, Lsap}
use Rattle.control.specs.declared.Code.{Code}
use Rattle.control.specs.declared.Code.TheVariants.{Ok, Rr, Rs, Dl, Dh, Rdl, Rdh}
use Rattle.control.specs.declared.Control.{Control}
use Rattle.control.specs.declared.Control.TheVariants.{Request, Reply}
use Rattle.frame.specs.declared.Address.{Address}
use Rattle.std.specs.Prelude.{Option, None, Some}
use Rattle.frame.specs.declared.Point.{Point}
use Rattle.frame.specs.declared.Head.{Head}
use Rattle.frame.specs.declared.Part.{Part}
use Rattle.frame.specs.declared.Fields.TheVariants.{Short, Frame}
use Rattle.frame.specs.Format.{octets, outside}
use Rattle.laid.specs.Laid.{laid}
use Rattle.state.specs.declared.Kept.{Kept}
use Rattle.state.specs.declared.Memory.{Memory}
use Rattle.state.specs.declared.Asks.{Asks}
use Rattle.state.specs.declared.Asks.TheVariants.{Sda, Srd, Sdn, Status as StatusAsked, Never}
use Rattle.state.specs.declared.Given.{Given}
use Rattle.state.specs.declared.Given.TheVariants.{Acknowledged, Coded}
use Rattle.state.specs.declared.New.{New}
use Rattle.state.specs.declared.Responder.{Responder}
use Rattle.state.specs.World.{Event, a_reply, sends, indicated}

-- "the active access points (0..62 and "none")": 63 is never one
unfoldable pub active : List ℕ → Option Point → Bool
active l None = same (get_or l 63 0) 1
active l (Some p) = pick (less p.0 63) (same (get_or l p.0 0) 1) false

-- "SDA, SRD or FDL status to access point 63"
unfoldable pub reserved : Option Point → Bool
reserved None = false
reserved (Some p) = same p.0 63

-- "an update over 244" is refused
abbrev pub UPDATE : ℕ
UPDATE = 244

-- "Data are shown as part of the high update or of the low update, high first; length 0 means none"
unfoldable pub shown : List ℕ → List ℕ → List ℕ
shown high low = pick (less 0 (length high)) high low

-- ---- the answer to a new SDA or SRD: what is replied, and whether it is indicated
unfoldable pub new : Given → Bool → New
new g i = record { given = g; indicated = i }

-- "SDA: OK as SC and indicated, or RR"
unfoldable pub new_sda : Bool → New
new_sda room = pick room (new Acknowledged true) (new (Coded Rr) false)

-- "SRD: with an update, indicated and DH or DL, or without room RDH or RDL; without an update, indicated and NR as
-- SC, or RR"
unfoldable pub new_srd : Bool → ℕ → ℕ → New
new_srd room high low =
    pick (less 0 high) (pick room (new (Coded Dh) true) (new (Coded Rdh) false))
    (pick (less 0 low) (pick room (new (Coded Dl) true) (new (Coded Rdl) false))
    (pick room (new Acknowledged true) (new (Coded Rr) false)))

-- "New: inactive access point, RS"
unfoldable pub new_answer : Bool → Bool → Bool → ℕ → ℕ → New
new_answer is_active is_sda room high low =
    pick is_active (pick is_sda (new_sda room) (new_srd room high low)) (new (Coded Rs) false)

-- ---- the reply's octets: "SAPs are swapped in replies except SC"
unfoldable pub reply_head : Responder → Head → Code → Head
reply_head r h k =
    record { destination = h.source; to = h.from; source = r.ts; from = h.to; control = Reply r.kind k }

-- the data of a reply: the update shown with DH, DL, RDH and RDL, and none with the others
unfoldable pub carries : Code → Bool
carries Ok = false
carries Code.Ue = false
carries Rr = false
carries Rs = false
carries Dl = true
carries Code.Nr = false
carries Dh = true
carries Rdl = true
carries Rdh = true

unfoldable pub reply_octets : Responder → Head → Given → List ℕ → List ℕ
reply_octets r h Acknowledged x = octets Short []
reply_octets r h (Coded k) x = octets (Frame (reply_head r h k)) (pick (carries k) x [])

-- ---- the memory
-- "FCV 1 with the remembered SA and bit"
unfoldable pub repeated : Kept → ℕ → Bool → Bool → Bool
repeated k source fcb fcv =
    pick fcv (pick (same k.source.0 source) (pick fcb k.bit (pick k.bit false true)) false) false

-- the remembered reply's octets
unfoldable pub recalled : Memory → List ℕ
recalled m = take m.kept.length m.octets

-- "FCB 1 FCV 0 is new and is remembered with its SA, bit 1 and reply; .. any other FCV 1 is new and remembered; 0, 0
-- is new and leaves the memory"
unfoldable pub remembered : Memory → Address → Bool → Bool → List ℕ → Memory
remembered m source fcb fcv x =
    pick (pick fcb true fcv)
    (record { kept = record { source = source; bit = fcb; length = length x }; octets = laid m.octets 0 x })
    m

-- ---- acts: none touches the site. What is answered, and the memory after it
pub record Answered : Type 0 where
  pub memory : Memory
  pub events : List Event

abbrev pub memory : Kept → List ℕ → Memory
memory k l = record { kept = k; octets = l }

unfoldable pub answered : Memory → List Event → Answered
answered m e = record { memory = m; events = e }

unfoldable pub shows : Bool → Head → Part → List Event
shows i h p = pick i (indicated h p ∷ []) []

-- a reply goes out after the responder's wait
unfoldable pub replies : Responder → List ℕ → Event
replies r o = sends a_reply o r.wait.0

-- "FDL status: OK", with the responder's type
unfoldable pub status_events : Responder → Head → List Event
status_events r h = pick (said (reserved h.to)) [] (replies r (reply_octets r h (Coded Ok) []) ∷ [])

-- "SDN is indicated if active and there is room"
unfoldable pub sdn_events : List ℕ → Bool → Head → Part → List Event
sdn_events points room h p = shows (pick (said (active points h.to)) room false) h p

-- SDA and SRD
unfoldable pub answer_new : Responder → Memory → New → Bool → Bool → List ℕ → Head → Part → Answered
answer_new r m n fcb fcv x h p =
    let o : List ℕ = reply_octets r h n.given x in
    answered (remembered m h.source fcb fcv o) (replies r o ∷ shows n.indicated h p)

unfoldable pub answer_counted : Responder → List ℕ → Memory → Bool → Bool → Bool → Bool → List ℕ → List ℕ → Head → Part
    → Answered
answer_counted r points m is_sda fcb fcv room high low h p =
    pick (said (reserved h.to)) (answered m [])
    (pick (said (repeated m.kept h.source.0 fcb fcv)) (answered m (replies r (recalled m) ∷ []))
    (answer_new r m (new_answer (active points h.to) is_sda room (length high) (length low)) fcb fcv (shown high low)
    h p))

-- by service; Ident and LSAP status are "read, never answered"
unfoldable pub asks : Service → Asks
asks SdaLow = Sda
asks SdnLow = Sdn
asks SdaHigh = Sda
asks SdnHigh = Sdn
asks Status = StatusAsked
asks SrdLow = Srd
asks SrdHigh = Srd
asks Ident = Never
asks Lsap = Never

unfoldable pub answer_as : Asks → Responder → List ℕ → Memory → Bool → Bool → Bool → List ℕ → List ℕ → Head → Part
    → Answered
answer_as Sda r points m fcb fcv room high low h p = answer_counted r points m true fcb fcv room high low h p
answer_as Srd r points m fcb fcv room high low h p = answer_counted r points m false fcb fcv room high low h p
answer_as Sdn r points m fcb fcv room high low h p = answered m (sdn_events points room h p)
answer_as StatusAsked r points m fcb fcv room high low h p = answered m (status_events r h)
answer_as Never r points m fcb fcv room high low h p = answered m []

unfoldable pub answer_to : Control → Responder → List ℕ → Memory → Bool → List ℕ → List ℕ → Head → Part → Answered
answer_to (Request s fcb fcv) r points m room high low h p = answer_as (asks s) r points m fcb fcv room high low h p
answer_to (Reply k code) r points m room high low h p = answered m []

-- "to TS or 127"
unfoldable pub answer : Responder → List ℕ → Memory → Bool → List ℕ → List ℕ → Head → Part → Answered
answer r points m room high low h p =
    pick (same h.destination.0 r.ts.0) (answer_to h.control r points m room high low h p)
    (pick (same h.destination.0 127) (answer_to h.control r points m room high low h p)
    (answered m []))

-- ---- what a request that was read has: its sender and its access points are in range
pub record Readable (h : Head) : Type 0 where
  pub source : h.source.0 ≤ 126
  pub to : outside h.to 63 ≡ false
  pub from : outside h.from 62 ≡ false

-- what is known where a request is answered: no address, memory or buffer is refused, and the request was read
pub record Asked (r : Responder) (k : Kept) (h : Head) (high low out : List ℕ) : Type 0 where
  pub ts : r.ts.0 ≤ 126
  pub reply : k.length ≤ 255
  pub head : Readable h
  pub upper : length high ≤ UPDATE
  pub lower : length low ≤ UPDATE
  pub room : 255 ≤ length out

-- and if it is not to access point 63, a reply to it is lawful
pub record Answerable (h : Head) : Type 0 where
  pub source : h.source.0 ≤ 126
  pub to : outside h.to 62 ≡ false
  pub from : outside h.from 62 ≡ false
