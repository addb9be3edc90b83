-- The writer never refuses a fit request, and a reader of its octets gets what was submitted. Assumes nothing.
use Prim.Native.Nat.{ℕ, ◌≤◌}
use mathlib.Core.Bool.{Bool, true, false, true≢false}
use mathlib.Core.Path.{◌≡◌, refl, sym, ◌∙◌}
use mathlib.Core.List.{List}
use native.Mathlib.Omega.{arith}
use lib.ListN.{length}
use Rattle.choice.specs.Choice.{pick, less, same, said}
use Rattle.choice.proofs.Rules.{unrefused, is_said, true_same, pick_true, pick-false, less-false, said-true}
use Rattle.choice.proofs.Rules.{said-false}
use Rattle.control.specs.declared.Service.{Service}
use Rattle.control.specs.declared.Control.TheVariants.{Request}
use Rattle.control.specs.Control.{counted, fc, bit, lawful, sdn}
use Rattle.control.proofs.Octet.{listed-fc}
use Rattle.frame.specs.declared.Address.{Address}
use Rattle.frame.specs.declared.Head.{Head}
use Rattle.std.specs.Prelude.{None, Some}
use Rattle.frame.specs.declared.Fields.TheVariants.{Frame}
use Rattle.frame.specs.Format.{extension, unit, outside, misdirected, unwritable_frame, unwritable}
use Rattle.frame.proofs.Lengths.{length-unit}
use Rattle.frame_laws.proofs.Theorems.{read-written}
use Rattle.request.specs.declared.Record.{Record}
use Rattle.frame.specs.Access.{NONE, access_of, point_of}
use Rattle.request.specs.Record.{SDN, beyond, extensions, misaddressed, mispointed, unfit, limited}
use Rattle.request.proofs.Laws.{fit, fit-short}
use Rattle.state.specs.declared.Priority.{Priority}
use Rattle.state.specs.declared.Priority.TheVariants.{High, Low}
use Rattle.state.specs.Request.{fcb_of, fcv_of, service_of, control_for, head_for}
use Rattle.state.specs.Submitted.{Carries, Reads}
use Rattle.state.proofs.Agreed.{near, counted-service}

-- ---- the access point of a record's octet: outside as the octet is beyond, and as long
outside-pick : (b : Bool) (n most : ℕ)
    → outside (pick b None (Some (record { 0 = n }))) most ≡ pick b false (pick (less most n) true false)
unfolding pick outside
outside-pick true n most = refl
outside-pick false n most = refl

outside-access : (n most : ℕ) → outside (access_of n) most ≡ beyond n most
unfolding access_of beyond
outside-access n most = outside-pick (same n NONE) n most

length-pick : (b : Bool) (n : ℕ) → length (extension (pick b None (Some (record { 0 = n })))) ≡ pick b 0 1
unfolding pick extension
length-pick true n = refl
length-pick false n = refl

length-access : (n : ℕ) → length (extension (access_of n)) ≡ extensions n
unfolding access_of extensions
length-access n = length-pick (same n NONE) n

-- ---- the control of a request is lawful, and an SDN's is an SDN
lawful-by : (b f v : Bool) (s : Service) → counted s ≡ pick b false true
    → lawful (pick b (Request s false false) (Request s f v)) ≡ true
unfolding pick said lawful
lawful-by true f v s e = rw e
lawful-by false f v s e = rw e

pub lawful-control : (p : Priority) (s m : ℕ) → lawful (control_for p s m) ≡ true
unfolding control_for
lawful-control p s m = lawful-by (same s SDN) (fcb_of m) (fcv_of m) (service_of p s) (counted-service p s)

sdn-control : (p : Priority) (m : ℕ) → sdn (fc (control_for p SDN m)) ≡ true
unfolding pick same control_for service_of fc bit sdn
sdn-control High m = refl
sdn-control Low m = refl

-- to 127 only an SDN goes
directed : (t b d : Bool) → (b ≡ true → d ≡ true)
    → pick t (pick b false true) false ≡ false → pick t (pick (said d) false true) false ≡ false
unfolding pick said
directed true true d k e = rw (k refl)
directed true false d k e = absurd (true≢false e)
directed false b d k e = refl

-- ---- a fit record with the data x
module _ (ts : Address) (p : Priority) (r : Record) (m : ℕ) (x : List ℕ) (e : unfit ts.0 r (length x) ≡ 0) where
  pub rightly : misdirected r.destination.0 (fc (control_for p r.service m)) ≡ false
  unfolding misaddressed misdirected
  rightly =
      let a = unrefused _ _ (fit ts.0 r (length x) e).addressed in
      directed _ (same r.service SDN) _ (λ q. rw (true_same _ _ q) (sdn-control p m)) (unrefused _ _ a.1).1

  pub inside : (outside (access_of r.to.0) 63 ≡ false) × (outside (access_of r.from.0) 62 ≡ false)
  unfolding mispointed
  inside =
      let a = unrefused _ _ (fit ts.0 r (length x) e).pointed in
      (outside-access _ _ ∙ is_said a.0, outside-access _ _ ∙ is_said (unrefused _ _ a.1).0)

  pub units : length (unit (head_for ts p r m) x) ≤ 246
  unfolding head_for
  units = rw (length-unit (head_for ts p r m) x, length-access r.to.0, length-access r.from.0)
      (omega (arith, fit-short ts.0 r (length x) e))

  -- so its frame is none that the writer refuses
  pub writable : ts.0 ≤ 126 → unwritable (Frame (head_for ts p r m)) x ≡ 0
  unfolding unwritable unwritable_frame head_for
  writable t =
      pick-false _ _ (less-false t)
      ∙ pick-false _ _ (less-false (near ts.0 r (length x) e))
      ∙ pick_true _ _ (said-true refl (listed-fc _ ∙ lawful-control p r.service m))
      ∙ pick-false _ _ (said-false refl inside.0)
      ∙ pick-false _ _ (said-false refl inside.1)
      ∙ pick-false _ _ (said-false refl rightly)
      ∙ pick-false _ _ (less-false units)

-- ---- a reader's head
point-again : (b : Bool) (n : ℕ) → same n NONE ≡ b → point_of (pick b None (Some (record { 0 = n }))) ≡ n
unfolding pick point_of
point-again true n e = sym (true_same _ _ e)
point-again false n e = refl

point-access : (n : ℕ) → point_of (access_of n) ≡ n
unfolding access_of
point-access n = point-again _ n refl

bits-by : (b f v : Bool) (s : Service)
    → pick b (Request s false false) (Request s f v) ≡ Request s (pick b false f) (pick b false v)
unfolding pick
bits-by true f v s = refl
bits-by false f v s = refl

control-bits : (p : Priority) (s m : ℕ)
    → control_for p s m
    ≡ Request (service_of p s) (pick (same s SDN) false (fcb_of m)) (pick (same s SDN) false (fcv_of m))
unfolding control_for
control-bits p s m = bits-by (same s SDN) (fcb_of m) (fcv_of m) (service_of p s)

-- the octets that carry a request are read as it was submitted
pub reads : (ts limit : ℕ) (p : Priority) (r : Record) (x o : List ℕ) → ts ≤ 126 → Carries ts limit p r x o
    → Reads ts p r x o
unfolding head_for limited
reads ts limit p r x o t c =
    let h : Head = head_for (record { 0 = ts }) p r c.mark in
    let z = read-written (Frame h) x
    (writable (record { 0 = ts }) p (limited limit r) c.mark x c.fit t) in
    record {
      head = h;
      part = z.0;
      fcb = _;
      fcv = _;
      taken = rw c.is z.1;
      destination = refl;
      to = point-access r.to.0;
      source = refl;
      from = point-access r.from.0;
      control = control-bits p r.service c.mark;
      octets = rw c.is z.2;
    }
