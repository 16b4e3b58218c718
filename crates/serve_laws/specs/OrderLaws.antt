-- Order of arrival, of every list of acts that is legal.
use Rattle.std.proofs.Common.{◌≡◌, ℕ, ◌<◌, not, Bool, true, false, Some, List, [], ◌∷◌, ◌++◌, drop, length, filter, refl, ap, sym, ◌∙◌, append_assoc, append-nil, if◌then◌else◌, eqb-true, arith, length-append}
use Rattle.cycle_rules.specs.Lists.{first}
use Rattle.cycle_rules.specs.declared.limits.TheConstants.{SESSION_VALUES}
use Rattle.serve_acts.specs.Acts.{Act}
use Rattle.serve_acts.specs.Acts.Act.{Arrives, Ends, Takes, Refuses}
use Rattle.serve_acts.specs.Calls.{is_on, is_of, calls, taken, is_taken, refused, waiting, is_withdrawn, kept}
use Rattle.serve_acts.specs.Legal.{IsLegal}
use Rattle.serve_acts.specs.Served.{Served}
use Rattle.serve_acts.specs.declared.call.Call.{Call}
use Rattle.serve_laws.specs.Filters.{filter_joined, filter_others, filter_swapped, filter_neither, none_filtered}
use Rattle.serve_laws.specs.Order.{IsInOrder}

-- the equation
abbrev pub Order : ℕ → List Act → Type 0
Order k t = kept k t ≡ filter (is_on k) (taken t) ++ (filter (is_on k) (refused t) ++ waiting k t)

-- a list by its first
pub first_is : {A : Type 0} (xs : List A) (x : A) → first xs ≡ Some x → xs ≡ x ∷ drop 1 xs
first_is [] x e = cc
first_is (y ∷ ys) x e = let same : y ≡ x = cc in ap (λ (z : _). z ∷ ys) same

kept_none : (c s : ℕ) (b : Bool) (xs : List Call) → xs ≡ [] → (if b then xs else filter (λ call. not (is_of c s call)) xs) ≡ []
kept_none c s true xs e = e
kept_none c s false xs e = ap (λ (l : List Call). filter (λ call. not (is_of c s call)) l) e

module _ {S : Type 0} (served : Served S) where
  -- no call is answered that the session is full before it is
  pub none_refused : (t : List Act) → IsLegal served t → length (taken t) < SESSION_VALUES → refused t ≡ []
  none_refused [] legal fewer = refl
  none_refused (Takes call ∷ t) legal fewer = none_refused t legal.1 (omega (arith, length-append (taken t) (call ∷ [])))
  none_refused (Refuses call ∷ t) legal fewer = absurd (omega (arith, legal.0.full))
  none_refused (Ends c s ∷ t) legal fewer = kept_none c s (is_taken c s t) (refused t) (none_refused t legal.1 fewer)
  none_refused (act ∷ t) legal fewer = none_refused t legal.1 fewer

-- ---- a call that arrives

arrives_by : (b : Bool) (k : ℕ) (call : Call) (t : List Act) → is_withdrawn t call ≡ false → is_on k call ≡ b → filter (λ other. not (is_withdrawn t other)) (filter (is_on k) (call ∷ [])) ≡ filter (is_on k) (call ∷ [])
arrives_by true k call t stands e = simp (e, stands) refl
arrives_by false k call t stands e = simp e refl

arrives : (k : ℕ) (call : Call) (t : List Act) → is_withdrawn t call ≡ false → Order k t → Order k (Arrives call ∷ t)
arrives k call t stands order =
    let new : List Call = filter (is_on k) (call ∷ []) in
    let in_force : Call → Bool = λ other. not (is_withdrawn t other) in
    ap (λ (l : List Call). filter in_force l) (filter_joined (is_on k) (calls t) (call ∷ []))
    ∙ (filter_joined in_force (filter (is_on k) (calls t)) new
    ∙ (ap (λ (l : List Call). kept k t ++ l) (arrives_by (is_on k call) k call t stands refl)
    ∙ (ap (λ (l : List Call). l ++ new) order
    ∙ (append_assoc (filter (is_on k) (taken t)) (filter (is_on k) (refused t) ++ waiting k t) new
    ∙ ap (λ (l : List Call). filter (is_on k) (taken t) ++ l) (append_assoc (filter (is_on k) (refused t)) (waiting k t) new)))))

-- ---- a value that is taken, and a call that is answered that the session is full

same_channel : (k : ℕ) (call : Call) (t : List Act) → is_on k call ≡ true → first (waiting call.channel t) ≡ Some call → waiting k t ≡ call ∷ drop 1 (waiting k t)
same_channel k call t on front = first_is (waiting k t) call (ap (λ (n : ℕ). first (waiting n t)) (sym (eqb-true call.channel k on)) ∙ front)

takes_by : (b : Bool) (k : ℕ) (call : Call) (t : List Act) → is_on k call ≡ b → first (waiting call.channel t) ≡ Some call → refused t ≡ [] → Order k t → Order k (Takes call ∷ t)
takes_by true k call t on front none order =
    let front_is = same_channel k call t on front in
    order
    ∙ (ap (λ (l : List Call). filter (is_on k) (taken t) ++ (filter (is_on k) l ++ waiting k t)) none
    ∙ (ap (λ (l : List Call). filter (is_on k) (taken t) ++ l) front_is
    ∙ (sym (append_assoc (filter (is_on k) (taken t)) (call ∷ []) (drop 1 (waiting k t)))
    ∙ simp (filter_joined (is_on k) (taken t) (call ∷ []), on, none) refl)))
takes_by false k call t on front none order =
    order ∙ simp (filter_joined (is_on k) (taken t) (call ∷ []), on, append-nil (filter (is_on k) (taken t))) refl

refuses_by : (b : Bool) (k : ℕ) (call : Call) (t : List Act) → is_on k call ≡ b → first (waiting call.channel t) ≡ Some call → Order k t → Order k (Refuses call ∷ t)
refuses_by true k call t on front order =
    let front_is = same_channel k call t on front in
    order
    ∙ (ap (λ (l : List Call). filter (is_on k) (taken t) ++ (filter (is_on k) (refused t) ++ l)) front_is
    ∙ (ap (λ (l : List Call). filter (is_on k) (taken t) ++ l) (sym (append_assoc (filter (is_on k) (refused t)) (call ∷ []) (drop 1 (waiting k t))))
    ∙ simp (filter_joined (is_on k) (refused t) (call ∷ []), on) refl))
refuses_by false k call t on front order =
    order ∙ simp (filter_joined (is_on k) (refused t) (call ∷ []), on, append-nil (filter (is_on k) (refused t))) refl

-- ---- a stream that ends

ends_by : (b : Bool) (k c s : ℕ) (t : List Act) → is_taken c s t ≡ b → Order k t → Order k (Ends c s ∷ t)
ends_by true k c s t was order = simp was order
ends_by false k c s t was order =
    let of : Call → Bool = is_of c s in
    let others : List Call → List Call = λ l. filter (λ call. not (is_of c s call)) l in
    let on_taken : List Call = filter (is_on k) (taken t) in
    let on_refused : List Call = filter (is_on k) (refused t) in
    simp was (
    filter_neither of (is_withdrawn t) (filter (is_on k) (calls t))
    ∙ (ap others order
    ∙ (filter_joined (λ call. not (is_of c s call)) on_taken (on_refused ++ waiting k t)
    ∙ (ap (λ (l : List Call). l ++ others (on_refused ++ waiting k t)) (filter_others of on_taken (none_filtered of (is_on k) (taken t) was))
    ∙ ap (λ (l : List Call). on_taken ++ l) (filter_joined (λ call. not (is_of c s call)) on_refused (waiting k t)
    ∙ ap (λ (l : List Call). l ++ others (waiting k t)) (filter_swapped (λ call. not (is_of c s call)) (is_on k) (refused t)))))))

module _ {S : Type 0} (served : Served S) where
  pub order : (k : ℕ) (t : List Act) → IsLegal served t → Order k t
  order k [] legal = refl
  order k (Arrives call ∷ t) legal = arrives k call t legal.0.stands (order k t legal.1)
  order k (Takes call ∷ t) legal = takes_by (is_on k call) k call t refl legal.0.due.front (none_refused served t legal.1 legal.0.fewer) (order k t legal.1)
  order k (Refuses call ∷ t) legal = refuses_by (is_on k call) k call t refl legal.0.due.front (order k t legal.1)
  order k (Ends c s ∷ t) legal = ends_by (is_taken c s t) k c s t refl (order k t legal.1)
  order k (act ∷ t) legal = order k t legal.1

  pub in_order : (k : ℕ) (t : List Act) → IsLegal served t → IsInOrder k t
  in_order k t legal = record { order = order k t legal }
