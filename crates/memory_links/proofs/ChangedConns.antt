-- Changing one connection is setting it.
use Rattle.std.proofs.Common.{◌≡◌, ℕ, zero, suc, ◌<◌, ◌≤◌, List, [], ◌∷◌, length, refl, ap, arith, ◌∙◌}
use Rattle.std.specs.Prelude.{slice_set, slice_index_or}
use Rattle.memory_links.specs.declared.conn.Conn.{Conn}
use Rattle.memory_links.specs.Conns.{changed}

pub changed_set : (at : ℕ) (change : Conn → Conn) (conns : List Conn) (conn : Conn)
    → at < length conns → slice_set conns at (change (slice_index_or conns at conn)) ≡ changed at change conns
changed_set at change [] conn lt = absurd (omega arith)
changed_set zero change (first ∷ rest) conn lt = refl
changed_set (suc at) change (first ∷ rest) conn lt = ap (λ l. first ∷ l) (changed_set at change rest conn (omega arith))

pub changed_put : (at : ℕ) (change : Conn → Conn) (conns : List Conn) (conn new : Conn)
    → at < length conns → new ≡ change (slice_index_or conns at conn) → slice_set conns at new ≡ changed at change conns
changed_put at change conns conn new lt same =
    ap (λ c. slice_set conns at c) same ∙ changed_set at change conns conn lt

pub changed_past : (at : ℕ) (change : Conn → Conn) (conns : List Conn) → length conns ≤ at → changed at change conns ≡ conns
changed_past at change [] le = refl
changed_past zero change (first ∷ rest) le = absurd (omega arith)
changed_past (suc at) change (first ∷ rest) le = ap (λ l. first ∷ l) (changed_past at change rest (omega arith))
