-- What the decoder answers is what decoding means where the connection stands.
use Rattle.std.proofs.Common.{◌≡◌, ℕ, Option, Some, None, List, Result, Ok, Err, IfSome, IfNone, refl, ap, sym, ◌∙◌, subst}
use Rattle.esi_base.specs.Answers.{AnswersAs}
use Rattle.esi_base.specs.declared.stop.Stop.{Stop}
use Rattle.esi_base.specs.declared.stop.Stop.TheVariants.{Refused, NoMemory}
use Rattle.hpack.specs.declared.header.Header.{Header}
use Rattle.hpack.specs.declared.stop.BlockRule.{BlockRule}
use Rattle.hpack.specs.BlockReading.{block_at}
use Rattle.hpack.specs.Decoding.{Decoding, failure}
use Rattle.hpack.specs.Tables.{Table}
use Rattle.h2_history.specs.Blocks.{decoded_at}
use Rattle.h2_history.specs.Standing.{Standing, table_or_stop, tables_of}
use Rattle.h2_streams.specs.Decoding.{Decodes}

-- of a decoder that has failed
decodes_failed : (stop : Stop BlockRule) (s : Standing) (new : Result Table (Stop BlockRule)) (octets : List ℕ) → s.tables ≡ Err stop → new ≡ Err stop → Decodes s octets (Err stop) (record s { tables = new })
decodes_failed (Refused rule) s new octets is same = record {
  decoded = ap (λ (t : Result Table (Stop BlockRule)). decoded_at t octets) is;
  left = ap (λ (t : Result Table (Stop BlockRule)). record s { tables = t }) same;
}
decodes_failed NoMemory s new octets is same = tt

-- of one that has not
decodes_live : (result : Result (List Header) (Stop BlockRule)) (s : Standing) (table : Table) (new : Decoding) (octets : List ℕ)
    → s.tables ≡ Ok table → new.failed ≡ failure result → AnswersAs (λ headers. record { headers = headers; table = new.table }) (block_at table octets) result
    → Decodes s octets result (record s { tables = tables_of new })
decodes_live (Ok headers) s table new octets is fails exact = record {
  table = new.table;
  decoded = ap (λ (t : Result Table (Stop BlockRule)). decoded_at t octets) is ∙ exact;
  left = ap (λ (f : Option (Stop BlockRule)). record s { tables = table_or_stop f new.table }) fails;
}
decodes_live (Err (Refused rule)) s table new octets is fails exact = record {
  decoded = ap (λ (t : Result Table (Stop BlockRule)). decoded_at t octets) is ∙ exact;
  left = ap (λ (f : Option (Stop BlockRule)). record s { tables = table_or_stop f new.table }) fails;
}
decodes_live (Err NoMemory) s table new octets is fails exact = tt

decodes_by : (failed : Option (Stop BlockRule)) (result : Result (List Header) (Stop BlockRule)) (s : Standing) (old new : Decoding) (octets : List ℕ)
    → old.failed ≡ failed → s.tables ≡ table_or_stop failed old.table
    → IfSome failed (λ stop. (result ≡ Err stop) × (new ≡ old))
    → IfNone failed (new.failed ≡ failure result)
    → IfNone failed (AnswersAs (λ headers. record { headers = headers; table = new.table }) (block_at old.table octets) result)
    → Decodes s octets result (record s { tables = tables_of new })
decodes_by None result s old new octets is tables stops fails exact = decodes_live result s old.table new octets tables fails exact
decodes_by (Some stop) result s old new octets is tables stops fails exact =
    let same : tables_of new ≡ Err stop = ap tables_of stops.1 ∙ ap (λ (f : Option (Stop BlockRule)). table_or_stop f old.table) is in
    subst (λ (r : Result (List Header) (Stop BlockRule)). Decodes s octets r (record s { tables = tables_of new })) (sym stops.0) (decodes_failed stop s (tables_of new) octets tables same)

pub decodes : (result : Result (List Header) (Stop BlockRule)) (s : Standing) (old new : Decoding) (octets : List ℕ)
    → s.tables ≡ tables_of old
    → IfSome old.failed (λ stop. (result ≡ Err stop) × (new ≡ old))
    → IfNone old.failed (new.failed ≡ failure result)
    → IfNone old.failed (AnswersAs (λ headers. record { headers = headers; table = new.table }) (block_at old.table octets) result)
    → Decodes s octets result (record s { tables = tables_of new })
decodes result s old new octets tables stops fails exact = decodes_by old.failed result s old new octets refl tables stops fails exact
