-- Loops that read and write settings.
use Rattle.std.proofs.Common.{◌≡◌, ℕ, ◌+◌, ◌-◌, ◌*◌, ◌<◌, ◌≤◌, List, [], ◌∷◌, ◌++◌, length, take, drop, get_or, sym, ap, ◌∙◌, refl, arith, append_assoc}
use Rattle.std.proofs.lemmas.List.{take_rest, take_at, take_all, take_more, take-append-drop, length-append, length-drop, length-take-le}
use Rattle.std.proofs.lemmas.Grind.{flat_map-append}
use Rattle.std.proofs.lemmas.Slice.{take-put_mid, drop-put_mid}
use borrow.Rule.Slice.PartMut.{put_mid}
use Rattle.h2_layouts.specs.declared.frame_type.FrameType.TheVariants as types
use Rattle.h2_layouts.specs.declared.setting.Setting.{Setting}
use Rattle.h2_layouts.specs.Numbers.{u16_of, u32_of}
use Rattle.std.specs.List.{flat_map}
use Rattle.h2_layouts.specs.Rules.{settings_of}
use Rattle.h2_layouts.specs.Written.{setting_octets, header_octets, header_for, octets_of}
use Rattle.h2_layouts.specs.declared.frame.Frame.TheVariants.{Settings}

-- a setting is six octets
first_setting : (rest : List ℕ) → 6 ≤ length rest
    → settings_of rest ≡ record { id = u16_of (get_or rest 0 0) (get_or rest 1 0); value = u32_of (get_or rest 2 0) (get_or rest 3 0) (get_or rest 4 0) (get_or rest 5 0) } ∷ settings_of (drop 6 rest)
first_setting [] h = absurd (omega arith)
first_setting (a ∷ []) h = absurd (omega arith)
first_setting (a ∷ b ∷ []) h = absurd (omega arith)
first_setting (a ∷ b ∷ c ∷ []) h = absurd (omega arith)
first_setting (a ∷ b ∷ c ∷ d ∷ []) h = absurd (omega arith)
first_setting (a ∷ b ∷ c ∷ d ∷ e ∷ []) h = absurd (omega arith)
first_setting (a ∷ b ∷ c ∷ d ∷ e ∷ f ∷ rest) h = refl

-- one more was read
pub settings_more : (front items whole : List Setting) (rest : List ℕ) (id value : ℕ) → 6 ≤ length rest
    → id ≡ u16_of (get_or rest 0 0) (get_or rest 1 0) → value ≡ u32_of (get_or rest 2 0) (get_or rest 3 0) (get_or rest 4 0) (get_or rest 5 0)
    → items ≡ front ++ record { id = id; value = value } ∷ []
    → front ++ settings_of rest ≡ whole → items ++ settings_of (take (length rest - 6) (drop 6 rest)) ≡ whole
settings_more front items whole rest id value h i v e w =
    ap (λ xs. items ++ settings_of xs) (take_rest rest 6)
    ∙ ap (λ xs. xs ++ settings_of (drop 6 rest)) e
    ∙ append_assoc front (record { id = id; value = value } ∷ []) (settings_of (drop 6 rest))
    ∙ ap (λ n. front ++ (record { id = n; value = value } ∷ settings_of (drop 6 rest))) i
    ∙ ap (λ n. front ++ (record { id = u16_of (get_or rest 0 0) (get_or rest 1 0); value = n } ∷ settings_of (drop 6 rest))) v
    ∙ ap (λ xs. front ++ xs) (sym (first_setting rest h))
    ∙ w

-- six octets a setting
pub settings_octets_len : (pairs : List Setting) → length (flat_map setting_octets pairs) ≡ 6 * length pairs
settings_octets_len [] = refl
settings_octets_len (setting ∷ pairs) = let h = settings_octets_len pairs in omega arith

-- the header and the first settings are written, up to an offset
pub record IsWritten (pairs : List Setting) (out : List ℕ) (at count : ℕ) : Type 0 where
  pub room : length out ≡ 9 + 6 * length pairs
  pub offset : at ≡ 9 + 6 * count
  pub front : take at out ≡ header_octets (header_for (Settings pairs)) ++ flat_map setting_octets (take count pairs)

-- nothing but the header
pub written_none : (pairs : List Setting) (len : ℕ) (old out : List ℕ) → len ≡ length (flat_map setting_octets pairs) → length old ≡ 9 + length (flat_map setting_octets pairs)
    → out ≡ header_octets (record { length = len; kind = types.Settings; flags = 0; stream = 0 }) ++ drop 9 old → IsWritten pairs out 9 0
written_none pairs len old out l o e =
    let count = settings_octets_len pairs in
    let whole : length out ≡ 9 + length (drop 9 old) = ap length e ∙ omega arith in
    record {
      room = omega (arith, length-drop 9 old);
      offset = refl;
      front = ap (λ x. take 9 x) e
          ∙ take_at (header_octets (record { length = len; kind = types.Settings; flags = 0; stream = 0 })) (drop 9 old) 9 refl
          ∙ ap (λ n. header_octets (record { length = n; kind = types.Settings; flags = 0; stream = 0 })) l;
    }

-- where octets are written over others
put_len : (at k : ℕ) (out piece : List ℕ) → length piece ≡ k → at + k ≤ length out → length (put_mid at k out piece) ≡ length out
put_len at k out piece e h =
    let front = take-put_mid at k out piece (at + k) (omega arith) (omega arith) in
    let following = drop-put_mid at k out piece (at + k) (omega arith) (omega arith) e in
    let whole = ap length (sym (take-append-drop (at + k) (put_mid at k out piece)) ∙ ap (λ o. o ++ drop (at + k) (put_mid at k out piece)) front ∙ ap (λ o. (take at out ++ piece) ++ o) following) in
    omega (arith, whole, length-append (take at out ++ piece) (drop (at + k) out), length-append (take at out) piece, length-take-le at out (omega arith), length-drop (at + k) out)

-- one setting more
pub written_more : (pairs : List Setting) (out piece : List ℕ) (at count : ℕ) (default : Setting) → IsWritten pairs out at count → count < length pairs
    → piece ≡ setting_octets (get_or pairs count default) → IsWritten pairs (put_mid at (at + 6 - at) out piece) (at + 6) (count + 1)
written_more pairs out piece at count default w h e =
    let room = w.room in
    let offset = w.offset in
    let six : length piece ≡ at + 6 - at = ap length e ∙ omega arith in
    record {
      room = put_len at (at + 6 - at) out piece six (omega arith) ∙ w.room;
      offset = omega arith;
      front = take-put_mid at (at + 6 - at) out piece (at + 6) (omega arith) (omega arith)
          ∙ ap (λ o. o ++ piece) w.front
          ∙ append_assoc (header_octets (header_for (Settings pairs))) (flat_map setting_octets (take count pairs)) piece
          ∙ ap (λ o. header_octets (header_for (Settings pairs)) ++ o)
          (ap (λ o. flat_map setting_octets (take count pairs) ++ o) e
          ∙ sym (flat_map-append setting_octets (take count pairs) (get_or pairs count default ∷ []))
          ∙ ap (λ x. flat_map setting_octets x) (sym (take_more pairs count default h)));
    }

-- all of them
pub written_all : (pairs : List Setting) (out : List ℕ) (at count : ℕ) → IsWritten pairs out at count → length pairs ≤ count → count ≤ length pairs → out ≡ octets_of (Settings pairs)
written_all pairs out at count w h g =
    let room = w.room in
    let offset = w.offset in
    sym (take_all at out (omega arith)) ∙ w.front ∙ ap (λ x. header_octets (header_for (Settings pairs)) ++ flat_map setting_octets x) (take_all count pairs h)
