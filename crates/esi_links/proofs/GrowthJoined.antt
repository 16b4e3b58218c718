-- How growths join: one write after another, and the prefix that is left where the second fails.
use Rattle.std.proofs.Common.{◌≡◌, ℕ, ◌+◌, ◌-◌, ◌<◌, ◌≤◌, List, [], ◌++◌, Option, Some, None, length, take, drop, refl, sym, ap, append_assoc, append-nil, length-append, arith}
use Rattle.std.specs.Option.{option_map}
use Rattle.std.proofs.lemmas.List.{take_rest, take-append-le}
use Rattle.std.proofs.Math.Seq.{take-add, take-append-add}
use Rattle.esi_links.specs.Growth.{Grows, GrowsByPrefix}

-- two growths, one after the other, on what is told
told_join : (before now after : Option (List ℕ)) (first second : List ℕ)
    → now ≡ option_map (λ old. old ++ first) before
    → after ≡ option_map (λ old. old ++ second) now
    → after ≡ option_map (λ old. old ++ (first ++ second)) before
told_join None now after first second grown more = cc
told_join (Some old) now after first second grown more =
    let joined : (old ++ first) ++ second ≡ old ++ (first ++ second) = append_assoc old first second in
    rw (more, grown) (ap Some joined)

-- two writes that took all: the octets told grew by both texts
pub grows_join : {before now after : Option (List ℕ)} {first second : List ℕ}
    → Grows before now first → Grows now after second → Grows before after (first ++ second)
grows_join {before} {now} {after} {first} {second} grown more =
    record { told = told_join before now after first second grown.told more.told }

-- a write that took all, then one that failed: a prefix of both that is not the whole
pub grows_by_prefix_join : {before now after : Option (List ℕ)} {first second : List ℕ}
    → Grows before now first → GrowsByPrefix now after second
    → GrowsByPrefix before after (first ++ second)
grows_by_prefix_join {before} {now} {after} {first} {second} grown prefix =
    record {
      count = length first + prefix.count;
      within = let under : prefix.count < length second = prefix.within in omega (arith, length-append first second);
      grows = rw (take-append-add first second prefix.count) (grows_join grown prefix.grows);
    }

-- a write that failed is also one of the longer text, of which no more was written
pub grows_by_prefix_longer : {before now : Option (List ℕ)} {first : List ℕ} (second : List ℕ)
    → GrowsByPrefix before now first → GrowsByPrefix before now (first ++ second)
grows_by_prefix_longer {before} {now} {first} second prefix =
    let within : prefix.count ≤ length first = omega arith in
    record {
      count = prefix.count;
      within = omega (arith, length-append first second);
      grows = rw (take-append-le prefix.count first second within) prefix.grows;
    }

told_none : (before : Option (List ℕ)) → before ≡ option_map (λ old. old ++ []) before
told_none None = refl
told_none (Some old) = ap Some (sym (append-nil old))

-- nothing was written
pub grows_none : {before : Option (List ℕ)} → Grows before before []
grows_none {before} = record { told = told_none before }

-- a further piece after the first `sent` octets of a text was taken
pub grows_more : {before now after : Option (List ℕ)} (octets : List ℕ) (sent count : ℕ)
    → Grows before now (take sent octets)
    → Grows now after (take count (take (length octets - sent) (drop sent octets)))
    → Grows before after (take (sent + count) octets)
grows_more octets sent count grown more =
    rw (take-add sent count octets) (grows_join grown (rw (take_rest octets sent) at more))
