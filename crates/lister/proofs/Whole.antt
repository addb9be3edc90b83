-- What the octets kept of an input have to do with the whole of it.
use Rattle.std.proofs.Common.{◌≡◌, ℕ, ◌<◌, List, [], ◌++◌, ap, ◌∙◌, sym, length, None, Some, IfSome, subst, Result, Ok, Err, OnOk}
use Rattle.std.specs.declared.option.Option.{Option}
use Rattle.std.specs.Io.KnownBytes.{Appends, Consumes, IsAtEnd}
use Rattle.capture.specs.Listing.{LONGEST, listing}

-- What the octets kept are the front of has their listing, if what is left behind them is nothing wherever they are few.
pub whole : (a b : Option (List ℕ)) (s : List ℕ)
    → ((t : List ℕ) → (length s < LONGEST → t ≡ []) → listing s ≡ listing (s ++ t))
    → (length s < LONGEST → IsAtEnd b) → Consumes a b s → IfSome a (λ t. listing s ≡ listing t)
whole None b s kept e p = tt
whole (Some t) None s kept e p = absurd p
whole (Some t) (Some r) s kept e p = kept r e ∙ ap listing (sym p)

-- A call that appends the listing of the octets kept, if it succeeds, appends that of the whole.
pub handed : {T E : Type 0} (r : Result T E) (a v w : Option (List ℕ)) (s text : List ℕ) → text ≡ listing s
    → IfSome a (λ t. listing s ≡ listing t) → OnOk r (Appends v w text)
    → OnOk r (IfSome a (λ t. Appends v w (listing t)))
handed (Err x) a v w s text q e p = tt
handed (Ok x) None v w s text q e p = tt
handed (Ok x) (Some t) v w s text q e p = subst (Appends v w) (q ∙ e) p
