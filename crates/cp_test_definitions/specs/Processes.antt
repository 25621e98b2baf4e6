-- Worked texts and their answers: processes. Written by worked/make_rows.py.
use Rattle.std.specs.Prelude.{◌≡◌, false, [], ◌∷◌, ◌++◌, codes}
use Rattle.cp_model.specs.Report.{Text}
use Rattle.cp_test_definitions.specs.Answers.{check_answer, run_answer, replay_answer}

abbrev pub a_cycle_never_ends_1_text : Text
a_cycle_never_ends_1_text = (codes "begin cycle end end.")

abbrev pub a_cycle_never_ends_1 : Type 0
a_cycle_never_ends_1 = run_answer 5 1 1 false [] a_cycle_never_ends_1_text ≡ (codes "rounds 5\nprocess 1 initial ready\nout ''\n")

abbrev pub a_cycle_never_ends_2 : Type 0
a_cycle_never_ends_2 = run_answer 5 10000 1 false [] a_cycle_never_ends_1_text ≡ (codes "rounds 5\nprocess 1 initial ready\nout ''\n")

abbrev pub a_started_process_runs_one_round_later_1_text : Text
a_started_process_runs_one_round_later_1_text = (codes "type p = process; begin display(7) end;\nvar a: p;\nbegin init a end.")

abbrev pub a_started_process_runs_one_round_later_1 : Type 0
a_started_process_runs_one_round_later_1 = run_answer 1 10 1 false [] a_started_process_runs_one_round_later_1_text ≡ (codes "rounds 1\nprocess 1 initial ready\nout ''\nprocess 2 a ready\nout ''\n")

abbrev pub a_started_process_runs_one_round_later_2 : Type 0
a_started_process_runs_one_round_later_2 = run_answer 2 10 1 false [] a_started_process_runs_one_round_later_1_text ≡ (codes "rounds 2\nprocess 1 initial ended\nout ''\nprocess 2 a ended\nout '7'\n")

abbrev pub calls_come_before_the_expression_1 : Type 0
calls_come_before_the_expression_1 = run_answer 1 20 1 false [] (codes "var a: integer;\nfunction f: integer; begin a := 5; f := 10 end;\nbegin a := 1; display(a + f) end.") ≡ (codes "rounds 1\nprocess 1 initial ended\nout '15'\nvar a = 5\n")

abbrev pub counting_processes_1_text : Text
counting_processes_1_text = (codes "type p = process; var x: integer;\n  begin x := 2; cycle display(x); x := x * x end end;\nvar a, b: p; y: integer;\nbegin init a, b; y := 7 - 10;\n  display(y div 2); display(y mod 2); init a end.")

abbrev pub counting_processes_1 : Type 0
counting_processes_1 = run_answer 3 4 1 false [] counting_processes_1_text ≡ (codes "rounds 3\nprocess 1 initial fault 7\nout '-1-1'\nvar y = -3\nprocess 2 a ready\nout '24'\nvar x = 16\nprocess 3 b ready\nout '24'\nvar x = 16\n")

abbrev pub counting_processes_2 : Type 0
counting_processes_2 = run_answer 5 4 1 false [] counting_processes_1_text ≡ (codes "rounds 5\nprocess 1 initial fault 7\nout '-1-1'\nvar y = -3\nprocess 2 a fault 3\nout '2416256'\nvar x = 256\nprocess 3 b fault 3\nout '2416256'\nvar x = 256\n")

abbrev pub empty_program_1_text : Text
empty_program_1_text = (codes "begin end.")

abbrev pub empty_program_1 : Type 0
empty_program_1 = run_answer 0 10 1 false [] empty_program_1_text ≡ (codes "rounds 0\nprocess 1 initial ready\nout ''\n")

abbrev pub empty_program_2 : Type 0
empty_program_2 = run_answer 1 10 1 false [] empty_program_1_text ≡ (codes "rounds 1\nprocess 1 initial ended\nout ''\n")

abbrev pub empty_program_3 : Type 0
empty_program_3 = replay_answer 10 1 false [] (codes "\n") empty_program_1_text ≡ (codes "rounds 1\nprocess 1 initial ready\nout ''\n")

abbrev pub faults_of_arithmetic_and_indices_1 : Type 0
faults_of_arithmetic_and_indices_1 = run_answer 2 10 1 false [] (codes "type t = array [1..3] of integer;\npa = process; var x: integer; begin x := 32767 + 1 end;\npb = process; var x: integer; begin x := 1 div x end;\npc = process; var r: t; x: integer; begin r[x] := 1 end;\npd = process; begin display(6) end;\nvar a: pa; b: pb; c: pc; d: pd;\nbegin init a, b, c, d end.") ≡ (codes "rounds 2\nprocess 1 initial ended\nout ''\nprocess 2 a fault 3\nout ''\nvar x = 0\nprocess 3 b fault 4\nout ''\nvar x = 0\nprocess 4 c fault 2\nout ''\nvar r[1] = 0\nvar r[2] = 0\nvar r[3] = 0\nvar x = 0\nprocess 5 d ended\nout '6'\n")

abbrev pub input_and_transcript_1 : Type 0
input_and_transcript_1 = run_answer 1 10 1 false (codes "a" ++ (28 ∷ []) ++ codes "b") (codes "var x: char; begin accept(x); display(x); accept(x); display(ord(x)) end.") ≡ (codes "rounds 1\nprocess 1 initial ended\nout 'a25'\nvar x = 25\n")

abbrev pub many_processes_1 : Type 0
many_processes_1 = run_answer 2 300 1 false [] (codes "type p = process; var x: char; begin accept(x); display(x) end; var v2, v3, v4, v5, v6, v7, v8, v9, v10, v11, v12, v13, v14, v15, v16, v17, v18, v19, v20, v21, v22, v23, v24, v25, v26, v27, v28, v29, v30, v31, v32, v33, v34, v35, v36, v37, v38, v39, v40, v41, v42, v43, v44, v45, v46, v47, v48, v49, v50, v51, v52, v53, v54, v55, v56, v57, v58, v59, v60, v61, v62, v63, v64, v65, v66, v67, v68, v69, v70, v71, v72, v73, v74, v75, v76, v77, v78, v79, v80, v81, v82, v83, v84, v85, v86, v87, v88, v89, v90, v91, v92, v93, v94, v95, v96, v97, v98, v99, v100, v101, v102, v103, v104, v105, v106, v107, v108, v109, v110, v111, v112, v113, v114, v115, v116, v117, v118, v119, v120, v121, v122, v123, v124, v125, v126, v127, v128, v129, v130, v131, v132, v133, v134, v135, v136, v137, v138, v139, v140, v141, v142, v143, v144, v145, v146, v147, v148, v149, v150, v151, v152, v153, v154, v155, v156, v157, v158, v159, v160, v161, v162, v163, v164, v165, v166, v167, v168, v169, v170, v171, v172, v173, v174, v175, v176, v177, v178, v179, v180, v181, v182, v183, v184, v185, v186, v187, v188, v189, v190, v191, v192, v193, v194, v195, v196, v197, v198, v199, v200, v201, v202, v203, v204, v205, v206, v207, v208, v209, v210, v211, v212, v213, v214, v215, v216, v217, v218, v219, v220, v221, v222, v223, v224, v225, v226, v227, v228, v229, v230, v231, v232, v233, v234, v235, v236, v237, v238, v239, v240, v241, v242, v243, v244, v245, v246, v247, v248, v249, v250, v251, v252, v253, v254: p; begin init v2, v3, v4, v5, v6, v7, v8, v9, v10, v11, v12, v13, v14, v15, v16, v17, v18, v19, v20, v21, v22, v23, v24, v25, v26, v27, v28, v29, v30, v31, v32, v33, v34, v35, v36, v37, v38, v39, v40, v41, v42, v43, v44, v45, v46, v47, v48, v49, v50, v51, v52, v53, v54, v55, v56, v57, v58, v59, v60, v61, v62, v63, v64, v65, v66, v67, v68, v69, v70, v71, v72, v73, v74, v75, v76, v77, v78, v79, v80, v81, v82, v83, v84, v85, v86, v87, v88, v89, v90, v91, v92, v93, v94, v95, v96, v97, v98, v99, v100, v101, v102, v103, v104, v105, v106, v107, v108, v109, v110, v111, v112, v113, v114, v115, v116, v117, v118, v119, v120, v121, v122, v123, v124, v125, v126, v127, v128, v129, v130, v131, v132, v133, v134, v135, v136, v137, v138, v139, v140, v141, v142, v143, v144, v145, v146, v147, v148, v149, v150, v151, v152, v153, v154, v155, v156, v157, v158, v159, v160, v161, v162, v163, v164, v165, v166, v167, v168, v169, v170, v171, v172, v173, v174, v175, v176, v177, v178, v179, v180, v181, v182, v183, v184, v185, v186, v187, v188, v189, v190, v191, v192, v193, v194, v195, v196, v197, v198, v199, v200, v201, v202, v203, v204, v205, v206, v207, v208, v209, v210, v211, v212, v213, v214, v215, v216, v217, v218, v219, v220, v221, v222, v223, v224, v225, v226, v227, v228, v229, v230, v231, v232, v233, v234, v235, v236, v237, v238, v239, v240, v241, v242, v243, v244, v245, v246, v247, v248, v249, v250, v251, v252, v253, v254 end.") ≡ (codes "rounds 2\nprocess 1 initial ended\nout ''\nprocess 2 v2 ended\nout '\\19'\nvar x = 25\nprocess 3 v3 ended\nout '\\19'\nvar x = 25\nprocess 4 v4 ended\nout '\\19'\nvar x = 25\nprocess 5 v5 ended\nout '\\19'\nvar x = 25\nprocess 6 v6 ended\nout '\\19'\nvar x = 25\nprocess 7 v7 ended\nout '\\19'\nvar x = 25\nprocess 8 v8 ended\nout '\\19'\nvar x = 25\nprocess 9 v9 ended\nout '\\19'\nvar x = 25\nprocess 10 v10 ended\nout '\\19'\nvar x = 25\nprocess 11 v11 ended\nout '\\19'\nvar x = 25\nprocess 12 v12 ended\nout '\\19'\nvar x = 25\nprocess 13 v13 ended\nout '\\19'\nvar x = 25\nprocess 14 v14 ended\nout '\\19'\nvar x = 25\nprocess 15 v15 ended\nout '\\19'\nvar x = 25\nprocess 16 v16 ended\nout '\\19'\nvar x = 25\nprocess 17 v17 ended\nout '\\19'\nvar x = 25\nprocess 18 v18 ended\nout '\\19'\nvar x = 25\nprocess 19 v19 ended\nout '\\19'\nvar x = 25\nprocess 20 v20 ended\nout '\\19'\nvar x = 25\nprocess 21 v21 ended\nout '\\19'\nvar x = 25\nprocess 22 v22 ended\nout '\\19'\nvar x = 25\nprocess 23 v23 ended\nout '\\19'\nvar x = 25\nprocess 24 v24 ended\nout '\\19'\nvar x = 25\nprocess 25 v25 ended\nout '\\19'\nvar x = 25\nprocess 26 v26 ended\nout '\\19'\nvar x = 25\nprocess 27 v27 ended\nout '\\19'\nvar x = 25\nprocess 28 v28 ended\nout '\\19'\nvar x = 25\nprocess 29 v29 ended\nout '\\19'\nvar x = 25\nprocess 30 v30 ended\nout '\\19'\nvar x = 25\nprocess 31 v31 ended\nout '\\19'\nvar x = 25\nprocess 32 v32 ended\nout '\\19'\nvar x = 25\nprocess 33 v33 ended\nout '\\19'\nvar x = 25\nprocess 34 v34 ended\nout '\\19'\nvar x = 25\nprocess 35 v35 ended\nout '\\19'\nvar x = 25\nprocess 36 v36 ended\nout '\\19'\nvar x = 25\nprocess 37 v37 ended\nout '\\19'\nvar x = 25\nprocess 38 v38 ended\nout '\\19'\nvar x = 25\nprocess 39 v39 ended\nout '\\19'\nvar x = 25\nprocess 40 v40 ended\nout '\\19'\nvar x = 25\nprocess 41 v41 ended\nout '\\19'\nvar x = 25\nprocess 42 v42 ended\nout '\\19'\nvar x = 25\nprocess 43 v43 ended\nout '\\19'\nvar x = 25\nprocess 44 v44 ended\nout '\\19'\nvar x = 25\nprocess 45 v45 ended\nout '\\19'\nvar x = 25\nprocess 46 v46 ended\nout '\\19'\nvar x = 25\nprocess 47 v47 ended\nout '\\19'\nvar x = 25\nprocess 48 v48 ended\nout '\\19'\nvar x = 25\nprocess 49 v49 ended\nout '\\19'\nvar x = 25\nprocess 50 v50 ended\nout '\\19'\nvar x = 25\nprocess 51 v51 ended\nout '\\19'\nvar x = 25\nprocess 52 v52 ended\nout '\\19'\nvar x = 25\nprocess 53 v53 ended\nout '\\19'\nvar x = 25\nprocess 54 v54 ended\nout '\\19'\nvar x = 25\nprocess 55 v55 ended\nout '\\19'\nvar x = 25\nprocess 56 v56 ended\nout '\\19'\nvar x = 25\nprocess 57 v57 ended\nout '\\19'\nvar x = 25\nprocess 58 v58 ended\nout '\\19'\nvar x = 25\nprocess 59 v59 ended\nout '\\19'\nvar x = 25\nprocess 60 v60 ended\nout '\\19'\nvar x = 25\nprocess 61 v61 ended\nout '\\19'\nvar x = 25\nprocess 62 v62 ended\nout '\\19'\nvar x = 25\nprocess 63 v63 ended\nout '\\19'\nvar x = 25\nprocess 64 v64 ended\nout '\\19'\nvar x = 25\nprocess 65 v65 ended\nout '\\19'\nvar x = 25\nprocess 66 v66 ended\nout '\\19'\nvar x = 25\nprocess 67 v67 ended\nout '\\19'\nvar x = 25\nprocess 68 v68 ended\nout '\\19'\nvar x = 25\nprocess 69 v69 ended\nout '\\19'\nvar x = 25\nprocess 70 v70 ended\nout '\\19'\nvar x = 25\nprocess 71 v71 ended\nout '\\19'\nvar x = 25\nprocess 72 v72 ended\nout '\\19'\nvar x = 25\nprocess 73 v73 ended\nout '\\19'\nvar x = 25\nprocess 74 v74 ended\nout '\\19'\nvar x = 25\nprocess 75 v75 ended\nout '\\19'\nvar x = 25\nprocess 76 v76 ended\nout '\\19'\nvar x = 25\nprocess 77 v77 ended\nout '\\19'\nvar x = 25\nprocess 78 v78 ended\nout '\\19'\nvar x = 25\nprocess 79 v79 ended\nout '\\19'\nvar x = 25\nprocess 80 v80 ended\nout '\\19'\nvar x = 25\nprocess 81 v81 ended\nout '\\19'\nvar x = 25\nprocess 82 v82 ended\nout '\\19'\nvar x = 25\nprocess 83 v83 ended\nout '\\19'\nvar x = 25\nprocess 84 v84 ended\nout '\\19'\nvar x = 25\nprocess 85 v85 ended\nout '\\19'\nvar x = 25\nprocess 86 v86 ended\nout '\\19'\nvar x = 25\nprocess 87 v87 ended\nout '\\19'\nvar x = 25\nprocess 88 v88 ended\nout '\\19'\nvar x = 25\nprocess 89 v89 ended\nout '\\19'\nvar x = 25\nprocess 90 v90 ended\nout '\\19'\nvar x = 25\nprocess 91 v91 ended\nout '\\19'\nvar x = 25\nprocess 92 v92 ended\nout '\\19'\nvar x = 25\nprocess 93 v93 ended\nout '\\19'\nvar x = 25\nprocess 94 v94 ended\nout '\\19'\nvar x = 25\nprocess 95 v95 ended\nout '\\19'\nvar x = 25\nprocess 96 v96 ended\nout '\\19'\nvar x = 25\nprocess 97 v97 ended\nout '\\19'\nvar x = 25\nprocess 98 v98 ended\nout '\\19'\nvar x = 25\nprocess 99 v99 ended\nout '\\19'\nvar x = 25\nprocess 100 v100 ended\nout '\\19'\nvar x = 25\nprocess 101 v101 ended\nout '\\19'\nvar x = 25\nprocess 102 v102 ended\nout '\\19'\nvar x = 25\nprocess 103 v103 ended\nout '\\19'\nvar x = 25\nprocess 104 v104 ended\nout '\\19'\nvar x = 25\nprocess 105 v105 ended\nout '\\19'\nvar x = 25\nprocess 106 v106 ended\nout '\\19'\nvar x = 25\nprocess 107 v107 ended\nout '\\19'\nvar x = 25\nprocess 108 v108 ended\nout '\\19'\nvar x = 25\nprocess 109 v109 ended\nout '\\19'\nvar x = 25\nprocess 110 v110 ended\nout '\\19'\nvar x = 25\nprocess 111 v111 ended\nout '\\19'\nvar x = 25\nprocess 112 v112 ended\nout '\\19'\nvar x = 25\nprocess 113 v113 ended\nout '\\19'\nvar x = 25\nprocess 114 v114 ended\nout '\\19'\nvar x = 25\nprocess 115 v115 ended\nout '\\19'\nvar x = 25\nprocess 116 v116 ended\nout '\\19'\nvar x = 25\nprocess 117 v117 ended\nout '\\19'\nvar x = 25\nprocess 118 v118 ended\nout '\\19'\nvar x = 25\nprocess 119 v119 ended\nout '\\19'\nvar x = 25\nprocess 120 v120 ended\nout '\\19'\nvar x = 25\nprocess 121 v121 ended\nout '\\19'\nvar x = 25\nprocess 122 v122 ended\nout '\\19'\nvar x = 25\nprocess 123 v123 ended\nout '\\19'\nvar x = 25\nprocess 124 v124 ended\nout '\\19'\nvar x = 25\nprocess 125 v125 ended\nout '\\19'\nvar x = 25\nprocess 126 v126 ended\nout '\\19'\nvar x = 25\nprocess 127 v127 ended\nout '\\19'\nvar x = 25\nprocess 128 v128 ended\nout '\\19'\nvar x = 25\nprocess 129 v129 ended\nout '\\19'\nvar x = 25\nprocess 130 v130 ended\nout '\\19'\nvar x = 25\nprocess 131 v131 ended\nout '\\19'\nvar x = 25\nprocess 132 v132 ended\nout '\\19'\nvar x = 25\nprocess 133 v133 ended\nout '\\19'\nvar x = 25\nprocess 134 v134 ended\nout '\\19'\nvar x = 25\nprocess 135 v135 ended\nout '\\19'\nvar x = 25\nprocess 136 v136 ended\nout '\\19'\nvar x = 25\nprocess 137 v137 ended\nout '\\19'\nvar x = 25\nprocess 138 v138 ended\nout '\\19'\nvar x = 25\nprocess 139 v139 ended\nout '\\19'\nvar x = 25\nprocess 140 v140 ended\nout '\\19'\nvar x = 25\nprocess 141 v141 ended\nout '\\19'\nvar x = 25\nprocess 142 v142 ended\nout '\\19'\nvar x = 25\nprocess 143 v143 ended\nout '\\19'\nvar x = 25\nprocess 144 v144 ended\nout '\\19'\nvar x = 25\nprocess 145 v145 ended\nout '\\19'\nvar x = 25\nprocess 146 v146 ended\nout '\\19'\nvar x = 25\nprocess 147 v147 ended\nout '\\19'\nvar x = 25\nprocess 148 v148 ended\nout '\\19'\nvar x = 25\nprocess 149 v149 ended\nout '\\19'\nvar x = 25\nprocess 150 v150 ended\nout '\\19'\nvar x = 25\nprocess 151 v151 ended\nout '\\19'\nvar x = 25\nprocess 152 v152 ended\nout '\\19'\nvar x = 25\nprocess 153 v153 ended\nout '\\19'\nvar x = 25\nprocess 154 v154 ended\nout '\\19'\nvar x = 25\nprocess 155 v155 ended\nout '\\19'\nvar x = 25\nprocess 156 v156 ended\nout '\\19'\nvar x = 25\nprocess 157 v157 ended\nout '\\19'\nvar x = 25\nprocess 158 v158 ended\nout '\\19'\nvar x = 25\nprocess 159 v159 ended\nout '\\19'\nvar x = 25\nprocess 160 v160 ended\nout '\\19'\nvar x = 25\nprocess 161 v161 ended\nout '\\19'\nvar x = 25\nprocess 162 v162 ended\nout '\\19'\nvar x = 25\nprocess 163 v163 ended\nout '\\19'\nvar x = 25\nprocess 164 v164 ended\nout '\\19'\nvar x = 25\nprocess 165 v165 ended\nout '\\19'\nvar x = 25\nprocess 166 v166 ended\nout '\\19'\nvar x = 25\nprocess 167 v167 ended\nout '\\19'\nvar x = 25\nprocess 168 v168 ended\nout '\\19'\nvar x = 25\nprocess 169 v169 ended\nout '\\19'\nvar x = 25\nprocess 170 v170 ended\nout '\\19'\nvar x = 25\nprocess 171 v171 ended\nout '\\19'\nvar x = 25\nprocess 172 v172 ended\nout '\\19'\nvar x = 25\nprocess 173 v173 ended\nout '\\19'\nvar x = 25\nprocess 174 v174 ended\nout '\\19'\nvar x = 25\nprocess 175 v175 ended\nout '\\19'\nvar x = 25\nprocess 176 v176 ended\nout '\\19'\nvar x = 25\nprocess 177 v177 ended\nout '\\19'\nvar x = 25\nprocess 178 v178 ended\nout '\\19'\nvar x = 25\nprocess 179 v179 ended\nout '\\19'\nvar x = 25\nprocess 180 v180 ended\nout '\\19'\nvar x = 25\nprocess 181 v181 ended\nout '\\19'\nvar x = 25\nprocess 182 v182 ended\nout '\\19'\nvar x = 25\nprocess 183 v183 ended\nout '\\19'\nvar x = 25\nprocess 184 v184 ended\nout '\\19'\nvar x = 25\nprocess 185 v185 ended\nout '\\19'\nvar x = 25\nprocess 186 v186 ended\nout '\\19'\nvar x = 25\nprocess 187 v187 ended\nout '\\19'\nvar x = 25\nprocess 188 v188 ended\nout '\\19'\nvar x = 25\nprocess 189 v189 ended\nout '\\19'\nvar x = 25\nprocess 190 v190 ended\nout '\\19'\nvar x = 25\nprocess 191 v191 ended\nout '\\19'\nvar x = 25\nprocess 192 v192 ended\nout '\\19'\nvar x = 25\nprocess 193 v193 ended\nout '\\19'\nvar x = 25\nprocess 194 v194 ended\nout '\\19'\nvar x = 25\nprocess 195 v195 ended\nout '\\19'\nvar x = 25\nprocess 196 v196 ended\nout '\\19'\nvar x = 25\nprocess 197 v197 ended\nout '\\19'\nvar x = 25\nprocess 198 v198 ended\nout '\\19'\nvar x = 25\nprocess 199 v199 ended\nout '\\19'\nvar x = 25\nprocess 200 v200 ended\nout '\\19'\nvar x = 25\nprocess 201 v201 ended\nout '\\19'\nvar x = 25\nprocess 202 v202 ended\nout '\\19'\nvar x = 25\nprocess 203 v203 ended\nout '\\19'\nvar x = 25\nprocess 204 v204 ended\nout '\\19'\nvar x = 25\nprocess 205 v205 ended\nout '\\19'\nvar x = 25\nprocess 206 v206 ended\nout '\\19'\nvar x = 25\nprocess 207 v207 ended\nout '\\19'\nvar x = 25\nprocess 208 v208 ended\nout '\\19'\nvar x = 25\nprocess 209 v209 ended\nout '\\19'\nvar x = 25\nprocess 210 v210 ended\nout '\\19'\nvar x = 25\nprocess 211 v211 ended\nout '\\19'\nvar x = 25\nprocess 212 v212 ended\nout '\\19'\nvar x = 25\nprocess 213 v213 ended\nout '\\19'\nvar x = 25\nprocess 214 v214 ended\nout '\\19'\nvar x = 25\nprocess 215 v215 ended\nout '\\19'\nvar x = 25\nprocess 216 v216 ended\nout '\\19'\nvar x = 25\nprocess 217 v217 ended\nout '\\19'\nvar x = 25\nprocess 218 v218 ended\nout '\\19'\nvar x = 25\nprocess 219 v219 ended\nout '\\19'\nvar x = 25\nprocess 220 v220 ended\nout '\\19'\nvar x = 25\nprocess 221 v221 ended\nout '\\19'\nvar x = 25\nprocess 222 v222 ended\nout '\\19'\nvar x = 25\nprocess 223 v223 ended\nout '\\19'\nvar x = 25\nprocess 224 v224 ended\nout '\\19'\nvar x = 25\nprocess 225 v225 ended\nout '\\19'\nvar x = 25\nprocess 226 v226 ended\nout '\\19'\nvar x = 25\nprocess 227 v227 ended\nout '\\19'\nvar x = 25\nprocess 228 v228 ended\nout '\\19'\nvar x = 25\nprocess 229 v229 ended\nout '\\19'\nvar x = 25\nprocess 230 v230 ended\nout '\\19'\nvar x = 25\nprocess 231 v231 ended\nout '\\19'\nvar x = 25\nprocess 232 v232 ended\nout '\\19'\nvar x = 25\nprocess 233 v233 ended\nout '\\19'\nvar x = 25\nprocess 234 v234 ended\nout '\\19'\nvar x = 25\nprocess 235 v235 ended\nout '\\19'\nvar x = 25\nprocess 236 v236 ended\nout '\\19'\nvar x = 25\nprocess 237 v237 ended\nout '\\19'\nvar x = 25\nprocess 238 v238 ended\nout '\\19'\nvar x = 25\nprocess 239 v239 ended\nout '\\19'\nvar x = 25\nprocess 240 v240 ended\nout '\\19'\nvar x = 25\nprocess 241 v241 ended\nout '\\19'\nvar x = 25\nprocess 242 v242 ended\nout '\\19'\nvar x = 25\nprocess 243 v243 ended\nout '\\19'\nvar x = 25\nprocess 244 v244 ended\nout '\\19'\nvar x = 25\nprocess 245 v245 ended\nout '\\19'\nvar x = 25\nprocess 246 v246 ended\nout '\\19'\nvar x = 25\nprocess 247 v247 ended\nout '\\19'\nvar x = 25\nprocess 248 v248 ended\nout '\\19'\nvar x = 25\nprocess 249 v249 ended\nout '\\19'\nvar x = 25\nprocess 250 v250 ended\nout '\\19'\nvar x = 25\nprocess 251 v251 ended\nout '\\19'\nvar x = 25\nprocess 252 v252 ended\nout '\\19'\nvar x = 25\nprocess 253 v253 ended\nout '\\19'\nvar x = 25\nprocess 254 v254 ended\nout '\\19'\nvar x = 25\n")

abbrev pub records_and_escapes_1_text : Text
records_and_escapes_1_text = (codes "type r = record x: integer; y: array [0..1] of boolean end;\nvar v: r;\nbegin v.x := -5; v.y[1] := true; display('\\');\n  display('(:39:)'); display(v.y[1]); display('a') end.")

abbrev pub records_and_escapes_1 : Type 0
records_and_escapes_1 = run_answer 1 10 1 false [] records_and_escapes_1_text ≡ (codes "rounds 1\nprocess 1 initial ended\nout '\\5c\\271a'\nvar v.x = -5\nvar v.y[0] = 0\nvar v.y[1] = 1\n")

abbrev pub records_and_escapes_2 : Type 0
records_and_escapes_2 = check_answer records_and_escapes_1_text ≡ (codes "accepted\n")

abbrev pub routines_types_and_loops_1_text : Text
routines_types_and_loops_1_text = (codes "type color = (red, green, blue); t = array [color] of 1..3;\nvar a, b: integer; c: color; r: t;\nprocedure swap(var u, w: integer);\n  var h: integer; begin h := u; u := w; w := h end;\nfunction f(k: integer): integer;\n  begin case k of 0: f := 1; 1, 2: f := k * 10 end end;\nbegin a := 1; b := 2; swap(a, b);\n  for c := red to blue do r[c] := ord(c) + 1;\n  repeat display(f(b)); b := b + 1 until b > 3\nend.")

abbrev pub routines_types_and_loops_1 : Type 0
routines_types_and_loops_1 = run_answer 1 200 1 false [] routines_types_and_loops_1_text ≡ (codes "rounds 1\nprocess 1 initial fault 8\nout '1020'\nvar a = 2\nvar b = 3\nvar c = 2\nvar r[0] = 1\nvar r[1] = 2\nvar r[2] = 3\n")

abbrev pub routines_types_and_loops_2 : Type 0
routines_types_and_loops_2 = run_answer 1 30 1 false [] routines_types_and_loops_1_text ≡ (codes "rounds 1\nprocess 1 initial fault 8\nout '1020'\nvar a = 2\nvar b = 3\nvar c = 2\nvar r[0] = 1\nvar r[1] = 2\nvar r[2] = 3\n")

abbrev pub routines_types_and_loops_3 : Type 0
routines_types_and_loops_3 = run_answer 1 29 1 false [] routines_types_and_loops_1_text ≡ (codes "rounds 1\nprocess 1 initial ready\nout '1020'\nvar a = 2\nvar b = 3\nvar c = 2\nvar r[0] = 1\nvar r[1] = 2\nvar r[2] = 3\n")

abbrev pub routines_types_and_loops_4 : Type 0
routines_types_and_loops_4 = run_answer 3 10 1 false [] routines_types_and_loops_1_text ≡ (codes "rounds 3\nprocess 1 initial fault 8\nout '1020'\nvar a = 2\nvar b = 3\nvar c = 2\nvar r[0] = 1\nvar r[1] = 2\nvar r[2] = 3\n")

abbrev pub Processes : Type 0
Processes = a_cycle_never_ends_1 × a_cycle_never_ends_2 × a_started_process_runs_one_round_later_1 × a_started_process_runs_one_round_later_2 × calls_come_before_the_expression_1 × counting_processes_1 × counting_processes_2 × empty_program_1 × empty_program_2 × empty_program_3 × faults_of_arithmetic_and_indices_1 × input_and_transcript_1 × many_processes_1 × records_and_escapes_1 × records_and_escapes_2 × routines_types_and_loops_1 × routines_types_and_loops_2 × routines_types_and_loops_3 × routines_types_and_loops_4
