-- What becomes of a high request: a fold over the events after its acceptance, and what demand 3 asks of it. A
-- request is its place of the high queue, from its acceptance until its record is collected. Assumes nothing.
use Rattle.std.specs.Prelude.{ℕ, ◌+◌, ◌<◌, ◌≤◌, Bool, true, false, ◌≡◌, List, [], ◌∷◌}
use Rattle.choice.specs.Choice.{pick, same}
use Rattle.state.specs.declared.Priority.{Priority}
use Rattle.state.specs.declared.Priority.TheVariants.{High, Low}
use Rattle.state.specs.World.{What, a_request, a_token, a_reply, Event, accepted, begins, ends, sends, confirmed}
use Rattle.state.specs.World.{collected, indicated, resets, refused}

-- how often it was sent and confirmed, the count of its confirmation, the holds that began after its acceptance and
-- ended, whether such a hold is on, whether a reset came, whether its record was collected, and the count shown then
pub record Fate : Type 0 where
  pub sendings : ℕ
  pub confirmations : ℕ
  pub count : ℕ
  pub holds : ℕ
  pub on : Bool
  pub reset : Bool
  pub collected : Bool
  pub shown : ℕ

unfoldable pub newborn : Fate
newborn =
    record {
      sendings = 0;
      confirmations = 0;
      count = 0;
      holds = 0;
      on = false;
      reset = false;
      collected = false;
      shown = 0;
    }

-- what each event makes of it
unfoldable pub sent_once : Fate → Fate
sent_once f =
    record {
      sendings = f.sendings + 1;
      confirmations = f.confirmations;
      count = f.count;
      holds = f.holds;
      on = f.on;
      reset = f.reset;
      collected = f.collected;
      shown = f.shown;
    }

unfoldable pub confirmed_with : ℕ → Fate → Fate
confirmed_with k f =
    record {
      sendings = f.sendings;
      confirmations = f.confirmations + 1;
      count = k;
      holds = f.holds;
      on = f.on;
      reset = f.reset;
      collected = f.collected;
      shown = f.shown;
    }

unfoldable pub hold_begun : Fate → Fate
hold_begun f =
    record {
      sendings = f.sendings;
      confirmations = f.confirmations;
      count = f.count;
      holds = f.holds;
      on = true;
      reset = f.reset;
      collected = f.collected;
      shown = f.shown;
    }

unfoldable pub hold_ended : Fate → Fate
hold_ended f =
    record {
      sendings = f.sendings;
      confirmations = f.confirmations;
      count = f.count;
      holds = pick f.on (f.holds + 1) f.holds;
      on = false;
      reset = f.reset;
      collected = f.collected;
      shown = f.shown;
    }

unfoldable pub was_reset : Fate → Fate
was_reset f =
    record {
      sendings = f.sendings;
      confirmations = f.confirmations;
      count = f.count;
      holds = f.holds;
      on = f.on;
      reset = true;
      collected = f.collected;
      shown = f.shown;
    }

unfoldable pub collected_with : ℕ → Fate → Fate
collected_with k f =
    record {
      sendings = f.sendings;
      confirmations = f.confirmations;
      count = f.count;
      holds = f.holds;
      on = f.on;
      reset = f.reset;
      collected = true;
      shown = k;
    }

-- a change that concerns the request at place p of the high queue only
unfoldable pub of_high : Priority → ℕ → ℕ → Fate → Fate → Fate
of_high High n p g f = pick (same n p) g f
of_high Low n p g f = f

unfoldable pub sent_what : What → ℕ → Fate → Fate
sent_what (a_request q n) p f = of_high q n p (sent_once f) f
sent_what a_token p f = f
sent_what a_reply p f = f

unfoldable pub meets : ℕ → Event → Fate → Fate
meets p (accepted q n) f = f
meets p begins f = hold_begun f
meets p ends f = hold_ended f
meets p (sends x o t) f = sent_what x p f
meets p (confirmed q n s k) f = of_high q n p (confirmed_with k f) f
meets p (collected q n r) f = of_high q n p (collected_with r.count f) f
meets p (indicated h d) f = f
meets p resets f = was_reset f
meets p (refused n) f = f

-- the fate of the request at place p through events, until its record is collected: then the place is free for another
unfoldable pub fate : ℕ → List Event → Fate → Fate
fate p [] f = f
fate p (e ∷ l) f = pick f.collected f (fate p l (meets p e f))

-- demand 3, of a request accepted with k high requests unconfirmed ahead of it
pub record Served (k limit : ℕ) (f : Fate) : Type 0 where
  -- "is confirmed exactly once: by the end of the (k+1)th token hold that begins after its acceptance"
  pub once : f.confirmations ≤ 1
  pub in_time : k < f.holds → f.confirmations ≡ 1
  -- "or at a reset if one comes sooner"
  pub at_reset : f.reset ≡ true → f.confirmations ≡ 1
  -- "It is sent at most once more than the retry limit", of order 6 its record's own
  pub few : f.sendings ≤ limit + 1
  -- "its confirmation carries the number of times it was sent", and so does the record that collect hands back
  pub counted : f.confirmations ≡ 1 → f.count ≡ f.sendings
  pub handed_back : f.collected ≡ true → (f.confirmations ≡ 1) × (f.shown ≡ f.sendings)
