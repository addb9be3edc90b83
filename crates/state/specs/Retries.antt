-- Document 01, "Requests": "the same octets again, up to the retry limit", by the history: how often a request was sent
-- before. And document 02: order 8, "No retries unless asked", what becomes of a request that is lost with the standard
-- settings, and order 6, what becomes of requests with limits of their own. Assumes nothing.
use Rattle.std.specs.Prelude.{ℕ, ◌+◌, true, false, List, [], ◌∷◌}
use Rattle.choice.specs.Choice.{pick, same, both}
use Rattle.request.specs.Record.{NA}
use Rattle.state.specs.declared.Priority.{Priority}
use Rattle.state.specs.declared.Priority.TheVariants.{High}
use Rattle.state.specs.World.{What, a_request, a_token, a_reply, Event, accepted, begins, ends, sends, confirmed}
use Rattle.state.specs.World.{collected, indicated, resets, refused}
use Rattle.state.specs.Runs.{submit, slot, collect}
use Rattle.state.specs.Counts.{alike}
use Rattle.state.specs.Twelve.{Step, hears, to_seven_with, to_seven, sends_6d, passes, token_from_5}

-- ---- how often the request at place n of the queue p was sent, since the confirmation of the one before it there or the
-- last reset: after a sending, after an event, and after events in a row
unfoldable pub sendings_by : Priority → ℕ → What → ℕ → ℕ
sendings_by p n (a_request q m) k = pick (both (alike p q) (same n m)) (k + 1) k
sendings_by p n a_token k = k
sendings_by p n a_reply k = k

unfoldable pub sendings_after : Priority → ℕ → Event → ℕ → ℕ
sendings_after p n (accepted q m) k = k
sendings_after p n begins k = k
sendings_after p n ends k = k
sendings_after p n (sends x o t) k = sendings_by p n x k
sendings_after p n (confirmed q m status count) k = pick (both (alike p q) (same n m)) 0 k
sendings_after p n (collected q m r) k = k
sendings_after p n (indicated h d) k = k
sendings_after p n resets k = 0
sendings_after p n (refused m) k = k

unfoldable pub sendings_last : Priority → ℕ → List Event → ℕ → ℕ
sendings_last p n [] k = k
sendings_last p n (e ∷ l) k = sendings_last p n l (sendings_after p n e k)

-- ---- case 11 of document 01 with the standard settings, which ask for no retry: two SRD high to 7; token from 5 at 100: 6D
-- sent; slot, at any clock: NA, count 1, token DC 05 02. Then the second request in the same way: token from 5 at 600: 6D
-- again; slot at 1200: NA, count 1, token. Collect: both NA, count 1
unfoldable pub unrepeated : ℕ → List Step
unrepeated clock =
    record { call = submit High (to_seven 0 0 0) []; told = accepted High 0 ∷ [] }
    ∷ (record { call = submit High (to_seven 0 0 0) []; told = accepted High 1 ∷ [] }
    ∷ (record { call = hears 100 token_from_5; told = begins ∷ (sends_6d 0 ∷ []) }
    ∷ (record { call = slot clock 255; told = confirmed High 0 NA 1 ∷ (ends ∷ (passes ∷ [])) }
    ∷ (record { call = hears 600 token_from_5; told = begins ∷ (sends_6d 1 ∷ []) }
    ∷ (record { call = slot 1200 255; told = confirmed High 1 NA 1 ∷ (ends ∷ (passes ∷ [])) }
    ∷ (record { call = collect High; told = collected High 0 (to_seven 0 NA 1) ∷ [] }
    ∷ (record { call = collect High; told = collected High 1 (to_seven 0 NA 1) ∷ [] }
    ∷ [])))))))

-- ---- order 6 at a station with the retry limit 1: SRD high to 7 with the reference 4711 and a limit of 2; with a limit of 0;
-- with the reference 7, asking for the station's limit, whatever limit it has. One with a limit of 16 is refused 30, with
-- every place in use too, where one with 15 is refused 27
unfoldable pub submits : List Step
submits =
    record { call = submit High (to_seven_with 4711 2 false 0 0) []; told = accepted High 0 ∷ [] }
    ∷ (record { call = submit High (to_seven_with 0 0 false 0 0) []; told = accepted High 1 ∷ [] }
    ∷ (record { call = submit High (to_seven_with 7 200 true 0 0) []; told = accepted High 2 ∷ [] }
    ∷ (record { call = submit High (to_seven_with 0 16 false 0 0) []; told = refused 30 ∷ [] }
    ∷ (record { call = submit High (to_seven_with 0 15 false 0 0) []; told = accepted High 3 ∷ [] }
    ∷ (record { call = submit High (to_seven_with 0 16 false 0 0) []; told = refused 30 ∷ [] }
    ∷ (record { call = submit High (to_seven_with 0 15 false 0 0) []; told = refused 27 ∷ [] }
    ∷ []))))))

-- token from 5 at 100: 6D sent; slots: the same twice; NA, count 3, token. Token from 5 at 600: 6D sent; slot: NA, count 1,
-- and with time left the third; slots: the same; NA, count 2, and the fourth. Collect: each with its reference and its limit
unfoldable pub go_by_their_limits : List Step
go_by_their_limits =
    record { call = hears 100 token_from_5; told = begins ∷ (sends_6d 0 ∷ []) }
    ∷ (record { call = slot 200 255; told = sends_6d 0 ∷ [] }
    ∷ (record { call = slot 300 255; told = sends_6d 0 ∷ [] }
    ∷ (record { call = slot 400 255; told = confirmed High 0 NA 3 ∷ (ends ∷ (passes ∷ [])) }
    ∷ (record { call = hears 600 token_from_5; told = begins ∷ (sends_6d 1 ∷ []) }
    ∷ (record { call = slot 700 255; told = confirmed High 1 NA 1 ∷ (sends_6d 2 ∷ []) }
    ∷ (record { call = slot 800 255; told = sends_6d 2 ∷ [] }
    ∷ (record { call = slot 900 255; told = confirmed High 2 NA 2 ∷ (sends_6d 3 ∷ []) }
    ∷ (record { call = collect High; told = collected High 0 (to_seven_with 4711 2 false NA 3) ∷ [] }
    ∷ (record { call = collect High; told = collected High 1 (to_seven_with 0 0 false NA 1) ∷ [] }
    ∷ (record { call = collect High; told = collected High 2 (to_seven_with 7 1 true NA 2) ∷ [] }
    ∷ []))))))))))
