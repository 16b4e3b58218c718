-- The nets of a formula as they are listed, one after the other, while there is room for them in a netlist.
use Rattle.std.specs.Prelude.{◌≡◌, ℕ, ◌+◌, List, [], ◌∷◌, ◌++◌, Option, Some, None, Result, Ok, Err, length, nat_lt, if◌then◌else◌}
use Rattle.std.specs.List.{slice_index_or}
use Rattle.esi_base.specs.Answers.{◌>>=◌}
use Rattle.netlist.specs.declared.limits.TheConstants.{MAX_NETS}
use Rattle.netlist.specs.declared.net.Net.{Net}
use Rattle.netlist.specs.declared.net.Net.TheVariants.{Const, Not, And, Or, Xor, Add, Sub, Equal, Less, Choose, Slice, Concat}
use Rattle.netlist.specs.declared.netlist.NetRefused.{NetRefused}
use Rattle.netlist.specs.declared.netlist.NetRefused.TheVariants.{TooMany, NoMemory}
use Rattle.netlist.specs.declared.formula.Half.{Half}
use Rattle.netlist.specs.declared.formula.Half.TheVariants.{High, Low}
use Rattle.netlist.specs.declared.formula.Formula.{Formula}
use Rattle.netlist.specs.declared.formula.Formula.TheOpen.{Formula-F}
use Rattle.netlist.specs.declared.formula.Formula.TheFolds.{fold-Formula}
use Rattle.formula_nets.specs.Making.{join_net}

-- the net that carries the word, and the list with the nets that were added
abbrev pub Listed : Type 0
Listed = Result (ℕ × List Net) NetRefused

abbrev pub Listing : Type 0
Listing = List Net → Listed

-- one net more, where there is room behind `base` nets and the list
abbrev pub added : ℕ → Net → Listing
added base net nets = if nat_lt (base + length nets) MAX_NETS then Ok (base + length nets, nets ++ net ∷ []) else Err TooMany

-- a value is joined to what is joined so far, where there is something
abbrev pub join_one : ℕ → Half → Option ℕ → ℕ → Listing
join_one base half None next nets = Ok (next, nets)
join_one base half (Some so_far) next nets = added base (join_net half so_far next) nets

abbrev pub joined_net : Option ℕ → ℕ
joined_net None = 0
joined_net (Some net) = net

abbrev pub join_all : ℕ → Half → Option ℕ → List Listing → Listing
join_all base half so_far [] nets = Ok (joined_net so_far, nets)
join_all base half so_far (part ∷ parts) nets = part nets >>= λ r. join_one base half so_far r.0 r.1 >>= λ s. join_all base half (Some s.0) parts s.1

abbrev pub list_one : ℕ → (ℕ → Net) → Listing → Listing
list_one base own a nets = a nets >>= λ r. added base (own r.0) r.1

abbrev pub list_two : ℕ → (ℕ → ℕ → Net) → Listing → Listing → Listing
list_two base own a b nets = a nets >>= λ r. b r.1 >>= λ s. added base (own r.0 s.0) s.1

abbrev pub list_three : ℕ → (ℕ → ℕ → ℕ → Net) → Listing → Listing → Listing → Listing
list_three base own a b c nets = a nets >>= λ r. b r.1 >>= λ s. c s.1 >>= λ t. added base (own r.0 s.0 t.0) t.1

abbrev pub list_halves : ℕ → Half → Listing → Listing → Listing
list_halves base High high low = list_two base Concat high low
list_halves base Low high low = list_two base (λ l h. Concat h l) low high

abbrev pub listing_step : List ℕ → ℕ → Formula-F Listing → Listing
listing_step variables base (Formula-F.Var i) = λ nets. Ok (slice_index_or variables i 0, nets)
listing_step variables base (Formula-F.Const word) = added base (Const word)
listing_step variables base (Formula-F.Not a) = list_one base Not a
listing_step variables base (Formula-F.And a b) = list_two base And a b
listing_step variables base (Formula-F.Or a b) = list_two base Or a b
listing_step variables base (Formula-F.Xor a b) = list_two base Xor a b
listing_step variables base (Formula-F.Add a b) = list_two base Add a b
listing_step variables base (Formula-F.Sub a b) = list_two base Sub a b
listing_step variables base (Formula-F.Equal a b) = list_two base Equal a b
listing_step variables base (Formula-F.Less a b) = list_two base Less a b
listing_step variables base (Formula-F.Choose test one other) = list_three base Choose test one other
listing_step variables base (Formula-F.Slice of high low) = list_one base (λ net. Slice net high low) of
listing_step variables base (Formula-F.Concat high low first) = list_halves base first high low
listing_step variables base (Formula-F.Join parts so_far) = join_all base so_far None parts

abbrev pub listing : List ℕ → ℕ → Formula → Listing
listing variables base = fold-Formula Listing (listing_step variables base)

-- the call lists what is meant, or is refused as that is, unless memory ran out
abbrev pub Lists : Listed → Result ℕ NetRefused → List Net → Type 0
Lists meaning (Ok net) nets = meaning ≡ Ok (net, nets)
Lists meaning (Err TooMany) nets = meaning ≡ Err TooMany
Lists meaning (Err NoMemory) nets = Unit {0}
