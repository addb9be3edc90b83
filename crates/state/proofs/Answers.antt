-- The answering side tells of nothing but replies and indications, of one reply at most. Assumes nothing.
use Prim.Native.Nat.{ℕ, ◌≤◌}
use mathlib.Core.Bool.{Bool, true, false}
use mathlib.Core.List.{List, [], ◌∷◌}
use mathlib.Core.Path.{◌≡◌, refl}
use native.Mathlib.Omega.{arith}
use Rattle.control.specs.declared.Control.{Control}
use Rattle.control.specs.declared.Control.TheVariants.{Request, Reply}
use Rattle.frame.specs.declared.Head.{Head}
use Rattle.frame.specs.declared.Part.{Part}
use Rattle.state.specs.declared.Memory.{Memory}
use Rattle.state.specs.declared.New.{New}
use Rattle.state.specs.declared.Responder.{Responder}
use Rattle.state.specs.declared.Asks.{Asks}
use Rattle.state.specs.declared.Asks.TheVariants.{Sda, Srd, Sdn, Status, Never}
use Rattle.state.specs.World.{Event, indicated}
use Rattle.state.specs.Answering.{Answered, answered, shows, replies, status_events, sdn_events, answer_new}
use Rattle.state.specs.Answering.{answer_counted, answer_as, answer_to, answer}
use Rattle.state.proofs.Cases.{by}
use Rattle.state.proofs.Weights.{weight, weight_in}

-- replies and indications, nothing sent behind a reply
pub data Answers (r : Responder) : List Event → Type 0 where
  none : Answers r []
  replied : (o : List ℕ) (l : List Event) → weight_in l ≡ 0 → Answers r l → Answers r (replies r o ∷ l)
  shown : (h : Head) (d : Part) (l : List Event) → Answers r l → Answers r (indicated h d ∷ l)

pub record Answering (r : Responder) (a : Answered) : Type 0 where
  pub told : Answers r a.events

pub few-answers : {r : Responder} {l : List Event} → Answers r l → weight_in l ≤ 1
unfolding weight_in weight replies
few-answers none = omega arith
few-answers (replied o l e a) = omega (arith, e)
few-answers (shown h d l a) = omega (arith, few-answers a)

unsent-none : weight_in [] ≡ 0
unfolding weight_in
unsent-none = refl

unsent-shows : (i : Bool) (h : Head) (d : Part) → weight_in (shows i h d) ≡ 0
unfolding shows weight_in weight
unsent-shows i h d = by (λ (l : List Event). weight_in l ≡ 0) _ _ _ (λ e. refl) (λ e. refl)

answers-shows : (r : Responder) (i : Bool) (h : Head) (d : Part) → Answers r (shows i h d)
unfolding shows
answers-shows r i h d = by (Answers r) _ _ _ (λ e. shown h d [] none) (λ e. none)

answers-status : (r : Responder) (h : Head) → Answers r (status_events r h)
unfolding status_events
answers-status r h = by (Answers r) _ _ _ (λ e. none) (λ e. replied _ [] unsent-none none)

answering : (r : Responder) (m : Memory) (e : List Event) → Answers r e → Answering r (answered m e)
unfolding answered
answering r m e t = record { told = t }

module _ (r : Responder) (points : List ℕ) (m : Memory) (room : Bool) (high low : List ℕ) (h : Head) (d : Part) where
  answering-new : (n : New) (fcb fcv : Bool) (x : List ℕ) → Answering r (answer_new r m n fcb fcv x h d)
  unfolding answer_new
  answering-new n fcb fcv x = answering r _ _ (replied _ _ (unsent-shows n.indicated h d) (answers-shows r n.indicated h d))

  answering-counted : (is_sda fcb fcv : Bool) → Answering r (answer_counted r points m is_sda fcb fcv room high low h d)
  unfolding answer_counted
  answering-counted is_sda fcb fcv =
      by (Answering r) _ _ _ (λ e. answering r m [] none)
      (λ e. by (Answering r) _ _ _ (λ e. answering r m _ (replied _ [] unsent-none none)) (λ e. answering-new _ fcb fcv _))

  answering-as : (a : Asks) (fcb fcv : Bool) → Answering r (answer_as a r points m fcb fcv room high low h d)
  unfolding answer_as sdn_events
  answering-as Sda fcb fcv = answering-counted true fcb fcv
  answering-as Srd fcb fcv = answering-counted false fcb fcv
  answering-as Sdn fcb fcv = answering r m _ (answers-shows r _ h d)
  answering-as Status fcb fcv = answering r m _ (answers-status r h)
  answering-as Never fcb fcv = answering r m [] none

  answering-to : (k : Control) → Answering r (answer_to k r points m room high low h d)
  unfolding answer_to
  answering-to (Request s fcb fcv) = answering-as _ fcb fcv
  answering-to (Reply k code) = answering r m [] none

  pub answering-answer : Answering r (answer r points m room high low h d)
  unfolding answer
  answering-answer =
      by (Answering r) _ _ _ (λ e. answering-to _)
      (λ e. by (Answering r) _ _ _ (λ e. answering-to _) (λ e. answering r m [] none))
