-- Two meshes for checks by computation: the icosahedron (level 0) and the icosphere that halves its edges (level 1), lent one after another.
-- A sixth place that is not read holds 65535 and a NaN.
use Rattle.std.specs.Prelude.{List, [], ◌∷◌, ◌++◌, map, ℕ, cond, eqb, get_or, Float}
use Rattle.std.specs.Float.{nan, binary64}
use Rattle.std.specs.Float.Ieee.{of_bits}
use Rattle.mesh.specs.Mesh.{Mesh}

-- the bits of coordinates, x, y, z in turn
coordinates0 : List ℕ
coordinates0 =
    0 ∷ 0x3FE0_D2CA_0DA1_530D ∷ 0x3FEB_3888_0B46_03E5 ∷ 0x3FE0_D2CA_0DA1_530D ∷ 0x3FEB_3888_0B46_03E5 ∷ 0 ∷ 0x3FEB_3888_0B46_03E5 ∷ 0 ∷ 0x3FE0_D2CA_0DA1_530D ∷ 0 ∷ 0x3FE0_D2CA_0DA1_530D ∷ 0xBFEB_3888_0B46_03E5 ∷ 0x3FE0_D2CA_0DA1_530D ∷ 0xBFEB_3888_0B46_03E5 ∷ 0 ∷ 0xBFEB_3888_0B46_03E5 ∷ 0 ∷ 0x3FE0_D2CA_0DA1_530D ∷ 0 ∷ 0xBFE0_D2CA_0DA1_530D ∷ 0x3FEB_3888_0B46_03E5 ∷ 0xBFE0_D2CA_0DA1_530D ∷ 0x3FEB_3888_0B46_03E5 ∷ 0 ∷ 0x3FEB_3888_0B46_03E5 ∷ 0 ∷ 0xBFE0_D2CA_0DA1_530D ∷ 0 ∷ 0xBFE0_D2CA_0DA1_530D ∷ 0xBFEB_3888_0B46_03E5 ∷ 0xBFE0_D2CA_0DA1_530D ∷ 0xBFEB_3888_0B46_03E5 ∷ 0 ∷ 0xBFEB_3888_0B46_03E5 ∷ 0 ∷ 0xBFE0_D2CA_0DA1_530D ∷ []

coordinates1 : List ℕ
coordinates1 =
    0 ∷ 0x3FE0_D2CA_0DA1_530D ∷ 0x3FEB_3888_0B46_03E5 ∷ 0x3FE0_D2CA_0DA1_530D ∷ 0x3FEB_3888_0B46_03E5 ∷ 0 ∷ 0x3FEB_3888_0B46_03E5 ∷ 0 ∷ 0x3FE0_D2CA_0DA1_530D ∷ 0 ∷ 0x3FE0_D2CA_0DA1_530D ∷ 0xBFEB_3888_0B46_03E5 ∷ 0x3FE0_D2CA_0DA1_530D ∷ 0xBFEB_3888_0B46_03E5 ∷ 0 ∷ 0xBFEB_3888_0B46_03E5 ∷ 0 ∷ 0x3FE0_D2CA_0DA1_530D ∷ 0 ∷ 0xBFE0_D2CA_0DA1_530D ∷ 0x3FEB_3888_0B46_03E5 ∷ 0xBFE0_D2CA_0DA1_530D ∷ 0x3FEB_3888_0B46_03E5 ∷ 0 ∷ 0x3FEB_3888_0B46_03E5 ∷ 0 ∷ 0xBFE0_D2CA_0DA1_530D ∷ 0 ∷ 0xBFE0_D2CA_0DA1_530D ∷ 0xBFEB_3888_0B46_03E5 ∷ 0xBFE0_D2CA_0DA1_530D ∷ 0xBFEB_3888_0B46_03E5 ∷ 0 ∷ 0xBFEB_3888_0B46_03E5 ∷ 0 ∷ 0xBFE0_D2CA_0DA1_530D ∷ 0x3FD3_C6EF_372F_E94F ∷ 0x3FE9_E377_9B97_F4A7 ∷ 0x3FE0_0000_0000_0000 ∷ 0x3FE0_0000_0000_0001 ∷ 0x3FD3_C6EF_372F_E950 ∷ 0x3FE9_E377_9B97_F4A8 ∷ 0xBFE0_0000_0000_0001 ∷ 0x3FD3_C6EF_372F_E950 ∷ 0x3FE9_E377_9B97_F4A8 ∷ 0 ∷ 0 ∷ 0x3FF0_0000_0000_0000 ∷ 0xBFD3_C6EF_372F_E94F ∷ 0x3FE9_E377_9B97_F4A7 ∷ 0x3FE0_0000_0000_0000 ∷ 0x3FE9_E377_9B97_F4A8 ∷ 0x3FE0_0000_0000_0001 ∷ 0x3FD3_C6EF_372F_E950 ∷ 0x3FD3_C6EF_372F_E94F ∷ 0x3FE9_E377_9B97_F4A7 ∷ 0xBFE0_0000_0000_0000 ∷ 0 ∷ 0x3FF0_0000_0000_0000 ∷ 0 ∷ 0x3FE9_E377_9B97_F4A8 ∷ 0x3FE0_0000_0000_0001 ∷ 0xBFD3_C6EF_372F_E950 ∷ 0x3FE9_E377_9B97_F4A8 ∷ 0xBFE0_0000_0000_0001 ∷ 0x3FD3_C6EF_372F_E950 ∷ 0x3FE0_0000_0000_0001 ∷ 0xBFD3_C6EF_372F_E950 ∷ 0x3FE9_E377_9B97_F4A8 ∷ 0x3FF0_0000_0000_0000 ∷ 0 ∷ 0 ∷ 0xBFD3_C6EF_372F_E94F ∷ 0x3FE9_E377_9B97_F4A7 ∷ 0xBFE0_0000_0000_0000 ∷ 0x3FE0_0000_0000_0001 ∷ 0x3FD3_C6EF_372F_E950 ∷ 0xBFE9_E377_9B97_F4A8 ∷ 0 ∷ 0 ∷ 0xBFF0_0000_0000_0000 ∷ 0xBFE0_0000_0000_0001 ∷ 0x3FD3_C6EF_372F_E950 ∷ 0xBFE9_E377_9B97_F4A8 ∷ 0x3FD3_C6EF_372F_E94F ∷ 0xBFE9_E377_9B97_F4A7 ∷ 0x3FE0_0000_0000_0000 ∷ 0x3FE9_E377_9B97_F4A8 ∷ 0xBFE0_0000_0000_0001 ∷ 0xBFD3_C6EF_372F_E950 ∷ 0x3FD3_C6EF_372F_E94F ∷ 0xBFE9_E377_9B97_F4A7 ∷ 0xBFE0_0000_0000_0000 ∷ 0 ∷ 0xBFF0_0000_0000_0000 ∷ 0 ∷ 0xBFE0_0000_0000_0001 ∷ 0xBFD3_C6EF_372F_E950 ∷ 0x3FE9_E377_9B97_F4A8 ∷ 0xBFE9_E377_9B97_F4A8 ∷ 0x3FE0_0000_0000_0001 ∷ 0x3FD3_C6EF_372F_E950 ∷ 0xBFE9_E377_9B97_F4A8 ∷ 0xBFE0_0000_0000_0001 ∷ 0x3FD3_C6EF_372F_E950 ∷ 0xBFF0_0000_0000_0000 ∷ 0 ∷ 0 ∷ 0xBFD3_C6EF_372F_E94F ∷ 0xBFE9_E377_9B97_F4A7 ∷ 0x3FE0_0000_0000_0000 ∷ 0xBFE9_E377_9B97_F4A8 ∷ 0x3FE0_0000_0000_0001 ∷ 0xBFD3_C6EF_372F_E950 ∷ 0x3FE0_0000_0000_0001 ∷ 0xBFD3_C6EF_372F_E950 ∷ 0xBFE9_E377_9B97_F4A8 ∷ 0xBFD3_C6EF_372F_E94F ∷ 0xBFE9_E377_9B97_F4A7 ∷ 0xBFE0_0000_0000_0000 ∷ 0xBFE0_0000_0000_0001 ∷ 0xBFD3_C6EF_372F_E950 ∷ 0xBFE9_E377_9B97_F4A8 ∷ 0xBFE9_E377_9B97_F4A8 ∷ 0xBFE0_0000_0000_0001 ∷ 0xBFD3_C6EF_372F_E950 ∷ []

counts1 : List ℕ
counts1 =
    5 ∷ 5 ∷ 5 ∷ 5 ∷ 5 ∷ 5 ∷ 5 ∷ 5 ∷ 5 ∷ 5 ∷ 5 ∷ 5 ∷ 6 ∷ 6 ∷ 6 ∷ 6 ∷ 6 ∷ 6 ∷ 6 ∷ 6 ∷ 6 ∷ 6 ∷ 6 ∷ 6 ∷ 6 ∷ 6 ∷ 6 ∷ 6 ∷ 6 ∷ 6 ∷ 6 ∷ 6 ∷ 6 ∷ 6 ∷ 6 ∷ 6 ∷ 6 ∷ 6 ∷ 6 ∷ 6 ∷ 6 ∷ 6 ∷ []

-- six places a vertex
neighbours0 : List ℕ
neighbours0 =
    1 ∷ 2 ∷ 5 ∷ 6 ∷ 7 ∷ 65535 ∷ 0 ∷ 2 ∷ 3 ∷ 7 ∷ 8 ∷ 65535 ∷ 0 ∷ 1 ∷ 4 ∷ 6 ∷ 8 ∷ 65535 ∷ 1 ∷ 7 ∷ 8 ∷ 9 ∷ 11 ∷ 65535 ∷ 2 ∷ 6 ∷ 8 ∷ 9 ∷ 10 ∷ 65535 ∷ 0 ∷ 6 ∷ 7 ∷ 10 ∷ 11 ∷ 65535 ∷ 0 ∷ 2 ∷ 4 ∷ 5 ∷ 10 ∷ 65535 ∷ 0 ∷ 1 ∷ 3 ∷ 5 ∷ 11 ∷ 65535 ∷ 1 ∷ 2 ∷ 3 ∷ 4 ∷ 9 ∷ 65535 ∷ 3 ∷ 4 ∷ 8 ∷ 10 ∷ 11 ∷ 65535 ∷ 4 ∷ 5 ∷ 6 ∷ 9 ∷ 11 ∷ 65535 ∷ 3 ∷ 5 ∷ 7 ∷ 9 ∷ 10 ∷ 65535 ∷ []

neighbours1 : List ℕ
neighbours1 =
    12 ∷ 13 ∷ 14 ∷ 15 ∷ 16 ∷ 65535 ∷ 12 ∷ 17 ∷ 18 ∷ 19 ∷ 20 ∷ 65535 ∷ 13 ∷ 17 ∷ 21 ∷ 22 ∷ 23 ∷ 65535 ∷ 18 ∷ 24 ∷ 25 ∷ 26 ∷ 27 ∷ 65535 ∷ 21 ∷ 28 ∷ 29 ∷ 30 ∷ 31 ∷ 65535 ∷ 14 ∷ 32 ∷ 33 ∷ 34 ∷ 35 ∷ 65535 ∷ 15 ∷ 22 ∷ 28 ∷ 32 ∷ 36 ∷ 65535 ∷ 16 ∷ 19 ∷ 24 ∷ 33 ∷ 37 ∷ 65535 ∷ 20 ∷ 23 ∷ 25 ∷ 29 ∷ 38 ∷ 65535 ∷ 26 ∷ 30 ∷ 38 ∷ 39 ∷ 40 ∷ 65535 ∷ 31 ∷ 34 ∷ 36 ∷ 39 ∷ 41 ∷ 65535 ∷ 27 ∷ 35 ∷ 37 ∷ 40 ∷ 41 ∷ 65535 ∷ 0 ∷ 1 ∷ 13 ∷ 16 ∷ 17 ∷ 19 ∷ 0 ∷ 2 ∷ 12 ∷ 15 ∷ 17 ∷ 22 ∷ 0 ∷ 5 ∷ 15 ∷ 16 ∷ 32 ∷ 33 ∷ 0 ∷ 6 ∷ 13 ∷ 14 ∷ 22 ∷ 32 ∷ 0 ∷ 7 ∷ 12 ∷ 14 ∷ 19 ∷ 33 ∷ 1 ∷ 2 ∷ 12 ∷ 13 ∷ 20 ∷ 23 ∷ 1 ∷ 3 ∷ 19 ∷ 20 ∷ 24 ∷ 25 ∷ 1 ∷ 7 ∷ 12 ∷ 16 ∷ 18 ∷ 24 ∷ 1 ∷ 8 ∷ 17 ∷ 18 ∷ 23 ∷ 25 ∷ 2 ∷ 4 ∷ 22 ∷ 23 ∷ 28 ∷ 29 ∷ 2 ∷ 6 ∷ 13 ∷ 15 ∷ 21 ∷ 28 ∷ 2 ∷ 8 ∷ 17 ∷ 20 ∷ 21 ∷ 29 ∷ 3 ∷ 7 ∷ 18 ∷ 19 ∷ 27 ∷ 37 ∷ 3 ∷ 8 ∷ 18 ∷ 20 ∷ 26 ∷ 38 ∷ 3 ∷ 9 ∷ 25 ∷ 27 ∷ 38 ∷ 40 ∷ 3 ∷ 11 ∷ 24 ∷ 26 ∷ 37 ∷ 40 ∷ 4 ∷ 6 ∷ 21 ∷ 22 ∷ 31 ∷ 36 ∷ 4 ∷ 8 ∷ 21 ∷ 23 ∷ 30 ∷ 38 ∷ 4 ∷ 9 ∷ 29 ∷ 31 ∷ 38 ∷ 39 ∷ 4 ∷ 10 ∷ 28 ∷ 30 ∷ 36 ∷ 39 ∷ 5 ∷ 6 ∷ 14 ∷ 15 ∷ 34 ∷ 36 ∷ 5 ∷ 7 ∷ 14 ∷ 16 ∷ 35 ∷ 37 ∷ 5 ∷ 10 ∷ 32 ∷ 35 ∷ 36 ∷ 41 ∷ 5 ∷ 11 ∷ 33 ∷ 34 ∷ 37 ∷ 41 ∷ 6 ∷ 10 ∷ 28 ∷ 31 ∷ 32 ∷ 34 ∷ 7 ∷ 11 ∷ 24 ∷ 27 ∷ 33 ∷ 35 ∷ 8 ∷ 9 ∷ 25 ∷ 26 ∷ 29 ∷ 30 ∷ 9 ∷ 10 ∷ 30 ∷ 31 ∷ 40 ∷ 41 ∷ 9 ∷ 11 ∷ 26 ∷ 27 ∷ 39 ∷ 41 ∷ 10 ∷ 11 ∷ 34 ∷ 35 ∷ 39 ∷ 40 ∷ []

-- which angle each is, of these: 0.553574359, 0.628318531; 2 stands for a place that is not read
angles1 : List ℕ
angles1 =
    0 ∷ 0 ∷ 0 ∷ 0 ∷ 0 ∷ 2 ∷ 0 ∷ 0 ∷ 0 ∷ 0 ∷ 0 ∷ 2 ∷ 0 ∷ 0 ∷ 0 ∷ 0 ∷ 0 ∷ 2 ∷ 0 ∷ 0 ∷ 0 ∷ 0 ∷ 0 ∷ 2 ∷ 0 ∷ 0 ∷ 0 ∷ 0 ∷ 0 ∷ 2 ∷ 0 ∷ 0 ∷ 0 ∷ 0 ∷ 0 ∷ 2 ∷ 0 ∷ 0 ∷ 0 ∷ 0 ∷ 0 ∷ 2 ∷ 0 ∷ 0 ∷ 0 ∷ 0 ∷ 0 ∷ 2 ∷ 0 ∷ 0 ∷ 0 ∷ 0 ∷ 0 ∷ 2 ∷ 0 ∷ 0 ∷ 0 ∷ 0 ∷ 0 ∷ 2 ∷ 0 ∷ 0 ∷ 0 ∷ 0 ∷ 0 ∷ 2 ∷ 0 ∷ 0 ∷ 0 ∷ 0 ∷ 0 ∷ 2 ∷ 0 ∷ 0 ∷ 1 ∷ 1 ∷ 1 ∷ 1 ∷ 0 ∷ 0 ∷ 1 ∷ 1 ∷ 1 ∷ 1 ∷ 0 ∷ 0 ∷ 1 ∷ 1 ∷ 1 ∷ 1 ∷ 0 ∷ 0 ∷ 1 ∷ 1 ∷ 1 ∷ 1 ∷ 0 ∷ 0 ∷ 1 ∷ 1 ∷ 1 ∷ 1 ∷ 0 ∷ 0 ∷ 1 ∷ 1 ∷ 1 ∷ 1 ∷ 0 ∷ 0 ∷ 1 ∷ 1 ∷ 1 ∷ 1 ∷ 0 ∷ 0 ∷ 1 ∷ 1 ∷ 1 ∷ 1 ∷ 0 ∷ 0 ∷ 1 ∷ 1 ∷ 1 ∷ 1 ∷ 0 ∷ 0 ∷ 1 ∷ 1 ∷ 1 ∷ 1 ∷ 0 ∷ 0 ∷ 1 ∷ 1 ∷ 1 ∷ 1 ∷ 0 ∷ 0 ∷ 1 ∷ 1 ∷ 1 ∷ 1 ∷ 0 ∷ 0 ∷ 1 ∷ 1 ∷ 1 ∷ 1 ∷ 0 ∷ 0 ∷ 1 ∷ 1 ∷ 1 ∷ 1 ∷ 0 ∷ 0 ∷ 1 ∷ 1 ∷ 1 ∷ 1 ∷ 0 ∷ 0 ∷ 1 ∷ 1 ∷ 1 ∷ 1 ∷ 0 ∷ 0 ∷ 1 ∷ 1 ∷ 1 ∷ 1 ∷ 0 ∷ 0 ∷ 1 ∷ 1 ∷ 1 ∷ 1 ∷ 0 ∷ 0 ∷ 1 ∷ 1 ∷ 1 ∷ 1 ∷ 0 ∷ 0 ∷ 1 ∷ 1 ∷ 1 ∷ 1 ∷ 0 ∷ 0 ∷ 1 ∷ 1 ∷ 1 ∷ 1 ∷ 0 ∷ 0 ∷ 1 ∷ 1 ∷ 1 ∷ 1 ∷ 0 ∷ 0 ∷ 1 ∷ 1 ∷ 1 ∷ 1 ∷ 0 ∷ 0 ∷ 1 ∷ 1 ∷ 1 ∷ 1 ∷ 0 ∷ 0 ∷ 1 ∷ 1 ∷ 1 ∷ 1 ∷ 0 ∷ 0 ∷ 1 ∷ 1 ∷ 1 ∷ 1 ∷ 0 ∷ 0 ∷ 1 ∷ 1 ∷ 1 ∷ 1 ∷ 0 ∷ 0 ∷ 1 ∷ 1 ∷ 1 ∷ 1 ∷ 0 ∷ 0 ∷ 1 ∷ 1 ∷ 1 ∷ 1 ∷ 0 ∷ 0 ∷ 1 ∷ 1 ∷ 1 ∷ 1 ∷ []

abbrev float : ℕ → Float
float b = of_bits binary64 b

abbrev angle_of : ℕ → Float
angle_of k = get_or (float 0x3FE1_B6E1_92EB_BE45 ∷ float 0x3FE4_1B2F_769C_F0E0 ∷ []) k nan

unfoldable pub icosahedron : Mesh
unfolding coordinates0 neighbours0
icosahedron =
    let side = float 0x3FF1_B6E1_92EB_BE44 in
    record {
      vertices = map float coordinates0;
      counts = 5 ∷ 5 ∷ 5 ∷ 5 ∷ 5 ∷ 5 ∷ 5 ∷ 5 ∷ 5 ∷ 5 ∷ 5 ∷ 5 ∷ [];
      neighbours = neighbours0;
      angles = map (λ k. cond (eqb k 65535) nan side) neighbours0;
    }

unfoldable pub two_levels : Mesh
unfolding icosahedron coordinates1 counts1 neighbours1 angles1
two_levels =
    record {
      vertices = icosahedron.vertices ++ map float coordinates1;
      counts = icosahedron.counts ++ counts1;
      neighbours = icosahedron.neighbours ++ neighbours1;
      angles = icosahedron.angles ++ map angle_of angles1;
    }
