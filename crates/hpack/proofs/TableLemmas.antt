-- What fits a table, when the oldest entry is taken out.
use Rattle.std.proofs.Common.{◌≡◌, ℕ, ◌+◌, ◌-◌, ◌<◌, ◌≤◌, Bool, true, false, cond, List, [], ◌∷◌, ◌++◌, refl, ap, sym, ◌∙◌, arith}
use Rattle.std.proofs.lemmas.Bool.{le-leb, lt-leb, leb-true, cond-true, cond-false}
use Rattle.std.proofs.lemmas.List.Sums.{sum_by-cons, sum_by_push}
use Rattle.hpack.specs.declared.header.Header.{Header}
use Rattle.hpack.specs.Tables.{size_of, list_size, fitting}

-- a list of one more
pub list_size-push : (headers : List Header) (header : Header) → list_size (headers ++ header ∷ []) ≡ list_size headers + size_of header
list_size-push headers header = sum_by_push size_of headers header

pub list_size-cons : (header : Header) (headers : List Header) → list_size (header ∷ headers) ≡ size_of header + list_size headers
list_size-cons header headers = sum_by-cons size_of header headers

-- where the first choices agree, the choices do
same_choices : {A : Type 0} (b : Bool) (x y z : A) → (b ≡ true → x ≡ y) → cond b x z ≡ cond b y z
same_choices true x y z e = e refl
same_choices false x y z e = refl

-- a list that fits stays whole
pub fitting_all : (room : ℕ) (headers : List Header) → list_size headers ≤ room → fitting room headers ≡ headers
fitting_all room [] h = refl
fitting_all room (header ∷ headers) h =
    let parts = list_size-cons header headers in
    cond-true _ _ _ (le-leb (size_of header) room (omega arith))
    ∙ ap (λ hs. header ∷ hs) (fitting_all (room - size_of header) headers (omega arith))

-- where a list is too large, its last entry does not stay
pub fitting_last : (room : ℕ) (headers : List Header) (last : Header) → room < list_size (headers ++ last ∷ []) → fitting room (headers ++ last ∷ []) ≡ fitting room headers
fitting_last room [] last h =
    let parts = list_size-cons last [] in
    cond-false _ _ _ (lt-leb (size_of last) room (omega arith))
fitting_last room (header ∷ headers) last h =
    let parts = list_size-cons header (headers ++ last ∷ []) in
    same_choices _ _ _ _ (λ fits.
    let within = leb-true (size_of header) room fits in
    ap (λ hs. header ∷ hs) (fitting_last (room - size_of header) headers last (omega arith)))

-- the oldest entry is evicted
pub evicted : (old new : List Header) (last : Header) (size limit : ℕ) → old ≡ new ++ last ∷ [] → size ≡ list_size old → limit < size
    → (size - size_of last ≡ list_size new) × (fitting limit new ≡ fitting limit old)
evicted old new last size limit is_old counted above =
    let size_is : list_size old ≡ list_size new + size_of last = ap list_size is_old ∙ list_size-push new last in
    let above_new : limit < list_size (new ++ last ∷ []) = let e = list_size-push new last in omega arith in
    (omega arith, sym (fitting_last limit new last above_new) ∙ ap (fitting limit) (sym is_old))
