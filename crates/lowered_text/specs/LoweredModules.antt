-- The module of a lowered netlist with a directory of endpoints.
use Rattle.std.specs.Prelude.{◌≡◌, ℕ, ◌+◌, ◌<◌, ◌≤◌, List, [], ◌∷◌, ◌++◌, Some, length, map, slice_get, take, get_or}
use Rattle.std.specs.Option.{option_map}
use Rattle.std.proofs.Common.{sym, ◌∙◌, ap, arith}
use Rattle.std.proofs.lemmas.List.{take_more, take_all, length-map}
use Rattle.std.proofs.lemmas.Option.{get_or_from_slice_get, slice_get-map}
use Rattle.esi_types.specs.declared.directory.Directory.{Directory}
use Rattle.channel_lower.specs.declared.lowered.Lowered.{Lowered}
use Rattle.verilog_module.specs.Modules.{Module}
use Rattle.verilog_module.specs.OfNetlist.{module_of}
use Rattle.verilog_text.specs.Interfaces.{line_of}
use Rattle.lowered_modules.specs.Interfaces.{interface_of}

abbrev pub lowered_module : List ℕ → Directory → Lowered → Module
lowered_module title directory lowered =
    module_of lowered.net (interface_of title (map line_of directory.to_server) (map line_of directory.to_client) lowered.servers lowered.clients)

-- ---- a loop that lists what is made of each item

pub listed_more : {A B : Type 0} (f : A → B) (xs : List A) (n : ℕ) (x : A) (now next : List B) → n < length xs → slice_get xs n ≡ Some x → next ≡ now ++ f x ∷ [] → now ≡ take n (map f xs)
    → next ≡ take (n + 1) (map f xs)
listed_more f xs n x now next lt at made so_far =
    let there : get_or (map f xs) n (f x) ≡ f x = get_or_from_slice_get (map f xs) n (f x) (f x) (slice_get-map f xs n ∙ ap (option_map f) at) in
    made
    ∙ ap (λ ys. ys ++ f x ∷ []) so_far
    ∙ ap (λ y. take n (map f xs) ++ y ∷ []) (sym there)
    ∙ sym (take_more (map f xs) n (f x) (omega (arith, lt, length-map xs f)))

pub listed_done : {A B : Type 0} (f : A → B) (xs : List A) (n : ℕ) (now : List B) → length xs ≤ n → now ≡ take n (map f xs) → now ≡ map f xs
listed_done f xs n now le so_far = so_far ∙ take_all n (map f xs) (omega (arith, le, length-map xs f))
