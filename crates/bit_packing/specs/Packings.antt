-- Which bits are a packing of a type: as many as the type is wide, of which those of voids are 0. They are that of one
-- value.
use Rattle.std.proofs.Common.{◌≡◌, Bool, false, List, length, ap, sym, ◌∙◌}
use Rattle.std.proofs.Math.Logic.{∥∥₁_elim}
use Rattle.std.proofs.Props.{props}
use Rattle.channel_types.specs.Types.{width_of}
use Rattle.channel_types.specs.declared.esi_type.EsiType.{EsiType}
use Rattle.bit_packing.specs.declared.value.Value.{Value}
use Rattle.bit_packing.specs.Packing.{PacksTo, IsPacking}
use Rattle.bit_packing.specs.Voids.{voids_of, has_marked_one}
use Rattle.bit_packing.specs.PackingLaws.{each_coded}

pub packing_width : (bits : List Bool) (ty : EsiType) → IsPacking bits ty → length bits ≡ width_of ty
packing_width bits ty packing = ∥∥₁_elim packing (Prim.hlevel props) (λ held. sym (ap length held.1.packs) ∙ (each_coded ty).size held.0 held.1.fits)

pub packing_clear : (bits : List Bool) (ty : EsiType) → IsPacking bits ty → has_marked_one (voids_of ty) bits ≡ false
packing_clear bits ty packing =
    ∥∥₁_elim packing (Prim.hlevel props) (λ held. sym (ap (has_marked_one (voids_of ty)) held.1.packs) ∙ (each_coded ty).clear held.0 held.1.fits)

pub made_packing : (bits : List Bool) (ty : EsiType) → length bits ≡ width_of ty → has_marked_one (voids_of ty) bits ≡ false → IsPacking bits ty
made_packing bits ty width clear = let x = (each_coded ty).found bits width clear in ∣ (x.0, record { fits = x.1.0; packs = x.1.1 }) ∣₁

pub one_value : (ty : EsiType) (bits : List Bool) (v w : Value) → PacksTo ty v bits → PacksTo ty w bits → v ≡ w
one_value ty bits v w h g = (each_coded ty).only v w h.fits g.fits (h.packs ∙ sym g.packs)
