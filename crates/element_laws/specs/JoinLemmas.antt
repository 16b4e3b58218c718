-- The law of a join.
use Rattle.std.specs.Prelude.{◌≡◌, ◌&&◌, Bool, true, false, List, [], ◌∷◌, ◌++◌, length, if◌then◌else◌, refl}
use Rattle.std.proofs.Common.{sym, ◌∙◌, ap, subst, arith}
use Rattle.std.proofs.lemmas.List.{append-nil, length-append}
use Rattle.element_laws.specs.Signals.{Bits, Signals, offered, transferred, refused, KeepsOffer}
use Rattle.element_laws.specs.Histories.{Channel, transfers, offers, KeepsOffers, Always}
use Rattle.element_laws.specs.Streams.{IsPrefix, pair, pairs}
use Rattle.element_laws.specs.Elements.{JoinCycle}
use Rattle.element_laws.specs.Laws.{JoinLaw}
use Rattle.element_laws.specs.SignalLemmas.{offers-more, keeps_by, again, IsRefused, refusal, offered_valid, IsOffered, offer, refused_by}

pub pairs-append : (lefts rights : List Bits) (left right : List Bits) → length lefts ≡ length rights → pairs (lefts ++ left) (rights ++ right) ≡ pairs lefts rights ++ pairs left right
pairs-append [] [] left right e = refl
pairs-append [] (r ∷ rights) left right e = absurd (omega arith)
pairs-append (l ∷ lefts) [] left right e = absurd (omega arith)
pairs-append (l ∷ lefts) (r ∷ rights) left right e = ap (λ ws. pair l r ∷ ws) (pairs-append lefts rights left right (omega arith))

-- in one cycle all three transfer, or none
pub record JoinMoves (left right output : Signals) : Type 0 where
  pub words : transferred output ≡ pairs (transferred left) (transferred right)
  pub left_count : length (transferred left) ≡ length (transferred output)
  pub right_count : length (transferred right) ≡ length (transferred output)

pub join_moves : (left right output : Signals) → JoinCycle left right output → JoinMoves left right output
join_moves left right output cycle =
    subst (λ r. JoinMoves left (record { valid = right.valid; word = right.word; ready = r }) output) (sym cycle.right_ready)
    (subst (λ r. JoinMoves (record { valid = left.valid; word = left.word; ready = r }) (record { valid = right.valid; word = right.word; ready = output.ready && left.valid }) output) (sym cycle.left_ready)
    (by_cases left.valid right.valid output.valid output.ready cycle.offers))
  where
    by_cases : (lv rv ov ready : Bool)
        → (if ov then output.word ∷ [] else []) ≡ pairs (if lv then left.word ∷ [] else []) (if rv then right.word ∷ [] else [])
        → JoinMoves (record { valid = lv; word = left.word; ready = ready && rv }) (record { valid = rv; word = right.word; ready = ready && lv }) (record { valid = ov; word = output.word; ready = ready })
    by_cases true true true true e = record { words = e; left_count = refl; right_count = refl }
    by_cases true true true false e = record { words = refl; left_count = refl; right_count = refl }
    by_cases true true false ready e = absurd (cc)
    by_cases true false true ready e = absurd (cc)
    by_cases true false false true e = record { words = refl; left_count = refl; right_count = refl }
    by_cases true false false false e = record { words = refl; left_count = refl; right_count = refl }
    by_cases false rv true ready e = absurd (cc)
    by_cases false true false true e = record { words = refl; left_count = refl; right_count = refl }
    by_cases false true false false e = record { words = refl; left_count = refl; right_count = refl }
    by_cases false false false ready e = record { words = refl; left_count = refl; right_count = refl }

-- what a join needs of its two offers
pub record BothOffered (left right : List Bits) (word : Bits) : Type 0 where
  pub first : Bits
  pub second : Bits
  pub left_is : left ≡ first ∷ []
  pub right_is : right ≡ second ∷ []
  pub pair_is : pair first second ≡ word

both_offered : (left right : Signals) (word : Bits) → pairs (offered left) (offered right) ≡ word ∷ [] → BothOffered (offered left) (offered right) word
both_offered left right word e = by_cases left.valid right.valid e
  where
    by_cases : (lv rv : Bool) → pairs (if lv then left.word ∷ [] else []) (if rv then right.word ∷ [] else []) ≡ word ∷ []
        → BothOffered (if lv then left.word ∷ [] else []) (if rv then right.word ∷ [] else []) word
    by_cases true true e = record { first = left.word; second = right.word; left_is = refl; right_is = refl; pair_is = cc }
    by_cases true false e = absurd (cc)
    by_cases false rv e = absurd (cc)

-- what is offered to a side that is not ready is refused
refused_where : (s : Signals) (word : Bits) → offered s ≡ word ∷ [] → s.ready ≡ false → refused s ≡ word ∷ []
refused_where s word e r = let o : IsOffered s word = offer s word e in refused_by s o.valid r ∙ ap (λ w. w ∷ []) o.same

join_keep : (left right output left' right' output' : Signals) → JoinCycle left right output → JoinCycle left' right' output' → KeepsOffer left left' → KeepsOffer right right'
    → (word : Bits) → refused output ≡ word ∷ [] → offered output' ≡ word ∷ []
join_keep left right output left' right' output' was now keeps_left keeps_right word e =
    let r : IsRefused output word = refusal output word e in
    let b : BothOffered (offered left) (offered right) word = both_offered left right word (sym was.offers ∙ offered_valid output r.valid ∙ ap (λ w. w ∷ []) r.same) in
    let left_refused : refused left ≡ b.first ∷ [] = refused_where left b.first b.left_is (was.left_ready ∙ ap (λ q. q && right.valid) r.ready) in
    let right_refused : refused right ≡ b.second ∷ [] = refused_where right b.second b.right_is (was.right_ready ∙ ap (λ q. q && left.valid) r.ready) in
    now.offers
    ∙ ap (λ ws. pairs ws (offered right')) (again left left' keeps_left b.first left_refused)
    ∙ ap (λ ws. pairs (b.first ∷ []) ws) (again right right' keeps_right b.second right_refused)
    ∙ ap (λ w. w ∷ []) b.pair_is

module _ {C : Type 0} (left right output : Channel C) where
  abbrev pub AllJoin : List C → Type 0
  AllJoin history = Always (λ cycle. JoinCycle (left cycle) (right cycle) (output cycle)) history

  left_count : (history : List C) → AllJoin history → length (transfers left history) ≡ length (transfers output history)
  left_count [] all = refl
  left_count (cycle ∷ earlier) all =
      let one : length (transferred (left cycle)) ≡ length (transferred (output cycle)) = (join_moves (left cycle) (right cycle) (output cycle) all.0).left_count in
      let before : length (transfers left earlier) ≡ length (transfers output earlier) = left_count earlier all.1 in
      omega (arith, length-append (transfers left earlier) (transferred (left cycle)), length-append (transfers output earlier) (transferred (output cycle)))

  right_count : (history : List C) → AllJoin history → length (transfers right history) ≡ length (transfers output history)
  right_count [] all = refl
  right_count (cycle ∷ earlier) all =
      let one : length (transferred (right cycle)) ≡ length (transferred (output cycle)) = (join_moves (left cycle) (right cycle) (output cycle) all.0).right_count in
      let before : length (transfers right earlier) ≡ length (transfers output earlier) = right_count earlier all.1 in
      omega (arith, length-append (transfers right earlier) (transferred (right cycle)), length-append (transfers output earlier) (transferred (output cycle)))

  join_words : (history : List C) → AllJoin history → transfers output history ≡ pairs (transfers left history) (transfers right history)
  join_words [] all = refl
  join_words (cycle ∷ earlier) all =
      ap (λ ws. ws ++ transferred (output cycle)) (join_words earlier all.1)
      ∙ ap (λ ws. pairs (transfers left earlier) (transfers right earlier) ++ ws) ((join_moves (left cycle) (right cycle) (output cycle) all.0).words)
      ∙ sym (pairs-append (transfers left earlier) (transfers right earlier) (transferred (left cycle)) (transferred (right cycle)) (left_count earlier all.1 ∙ sym (right_count earlier all.1)))

  pub join_law : (history : List C) → AllJoin history → JoinLaw left right output history
  join_law history all = record { words = join_words history all; left_count = left_count history all; right_count = right_count history all }

  pub join_keeps : (history : List C) → AllJoin history → KeepsOffers left history → KeepsOffers right history → KeepsOffers output history
  join_keeps [] all kl kr = tt
  join_keeps (new ∷ []) all kl kr = tt
  join_keeps (new ∷ old ∷ earlier) all kl kr =
      (keeps_by (output old) (output new) (join_keep (left old) (right old) (output old) (left new) (right new) (output new) all.1.0 all.0 kl.0 kr.0), join_keeps (old ∷ earlier) all.1 kl.1 kr.1)

  join_offers : (history : List C) → AllJoin history → offers output history ≡ pairs (offers left history) (offers right history)
  join_offers [] all = refl
  join_offers (cycle ∷ earlier) all =
      offers-more output cycle earlier
      ∙ ap (λ ws. ws ++ offered (output cycle)) (join_words earlier all.1)
      ∙ ap (λ ws. pairs (transfers left earlier) (transfers right earlier) ++ ws) (all.0.offers)
      ∙ sym (pairs-append (transfers left earlier) (transfers right earlier) (offered (left cycle)) (offered (right cycle)) (left_count earlier all.1 ∙ sym (right_count earlier all.1)))
      ∙ ap (λ ws. pairs ws (transfers right earlier ++ offered (right cycle))) (sym (offers-more left cycle earlier))
      ∙ ap (λ ws. pairs (offers left (cycle ∷ earlier)) ws) (sym (offers-more right cycle earlier))

  pub join_streams : (history : List C) → AllJoin history → IsPrefix (offers output history) (pairs (offers left history) (offers right history))
  join_streams history all = record { rest = []; is = append-nil (offers output history) ∙ join_offers history all }
