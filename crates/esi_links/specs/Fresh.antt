-- What it means that links are fresh.
use Rattle.std.specs.Prelude.{◌≡◌, List, [], ◌∷◌, Bool, true, false, IsTrue, refl}
use Rattle.std.proofs.Common.{true≢false, sym}
use Rattle.esi_links.specs.declared.links.Entry.{Entry}
use Rattle.esi_links.specs.LinkLog.{is_fresh}

-- links that are not started have an empty log
pub fresh_log : (started : Bool) (entries : List Entry)
    → IsTrue (is_fresh started entries) → started ≡ false → entries ≡ []
fresh_log true entries fresh off = absurd (true≢false off)
fresh_log false [] fresh off = refl
fresh_log false (entry ∷ rest) fresh off = absurd (true≢false (sym fresh))
